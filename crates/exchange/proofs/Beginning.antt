-- What holds of the world as it begins.
use Rattle.std.proofs.Common.{◌≡◌, ℕ, zero, suc, ◌+◌, ◌*◌, ◌^◌, ◌<◌, List, [], ◌∷◌, get_or, Some, None, Option, sym, refl, ap, ◌∙◌, arith}
use Rattle.std.specs.List.{ContainsAt as Has}
use Rattle.ratchet.specs.State.{begun}
use Rattle.runs.specs.declared.types.Who.{Who}
use Rattle.runs.specs.declared.types.Who.TheVariants.{First, Second}
use Rattle.chain.specs.Secret.{joint, root_of, along}
use Rattle.runs.specs.Stock.{sending, taking}
use Rattle.runs.specs.World as model
use Rattle.exchange.specs.Outside.{Outside, Lawful}
use Rattle.exchange.specs.Held.{Held, blank, Ground, root_part, chain_part, draw_of, bytes_of, hold}
use Rattle.exchange.specs.Exchanges.{and_then}
use Rattle.exchange.specs.Network.{Letter, party, draw_by, new_party, first_held, start}
use Rattle.exchange.specs.Model.{model_world}
use Rattle.exchange.proofs.Recipes.{joint_above}
use Rattle.exchange.proofs.Draws.{parity, known-own}
use Rattle.exchange.proofs.Invariant.{Own, Bytes, Agrees, Inv}

-- ### Nothing happened yet

none : {X : Type 0} (x : X) → Has [] x → ⊥
none x h = omega (arith, h.1)

new-own : (who : Who) (h : Held) → h.state ≡ begun (parity who) → Own who (new_party h)
new-own who h e = record {
  counted = rw e (record { drawn = below who; sent = omega arith; before = omega arith });
  count = rw e (counts who);
  rising = record { rising = λ i j l u. omega arith; below = first };
  handed = λ l i. absurd (none l i);
  left = λ l i. absurd (none l i);
}
  where
    below : (x : Who) → parity x < 2 ^ 32
    below First = omega arith
    below Second = omega arith

    counts : (x : Who) → parity x ≡ 2 * 0 + parity x
    counts First = refl
    counts Second = refl

    first : (i : ℕ) → i < 1 → get_or (0 ∷ []) i 0 < 1
    first zero l = omega arith
    first (suc i) l = absurd (omega arith)

module _ (o : Outside) (secret : List ℕ) where
  first_state : (x : Option (List ℕ)) → (first_held (and_then x (λ j.
      let link : List ℕ = o.link_bytes secret j in
      Some (record { state = begun 1; root = root_part link; sending = chain_part link; taking = blank; half = o.half (draw_by First 0); keys = [] })))).state ≡ begun 1
  first_state None = refl
  first_state (Some j) = refl

  pub start_model : model_world (start o secret) ≡ model.start
  start_model = let e = first_state (o.joint (draw_by First 0) (o.half (draw_by Second 0))) in λ i. record {
    first = record { side = e i; sealed = []; left = []; opened = []; handed = [] };
    second = model.new_party 0;
    readings = [];
  }

  -- the first side's bytes are those of root 1 and of link 0's chain
  module _ (k : Lawful o) (g : Ground) (a : Agrees secret g (start o secret)) where
    first_draw : draw_by First 0 ≡ draw_of g 1
    first_draw = known-own g First (record { past = []; own = 0; made = 1 }) 1 refl (a.known First)

    second_draw : draw_by Second 0 ≡ draw_of g 0
    second_draw = known-own g Second (record { past = []; own = 0; made = 1 }) 0 refl (a.known Second)

    first_joint : o.joint (draw_by First 0) (o.half (draw_by Second 0)) ≡ Some (bytes_of o g (joint 0))
    first_joint = rw (first_draw, second_draw) (joint_above o k g 0)

    first_holds : (party First (start o secret)).held ≡ hold o g (begun 1)
    unfolding bytes_of root_of along sending taking
    first_holds =
        ap (λ x. first_held (and_then x (λ j.
        let link : List ℕ = o.link_bytes secret j in
        Some (record { state = begun 1; root = root_part link; sending = chain_part link; taking = blank; half = o.half (draw_by First 0); keys = [] })))) first_joint
        ∙ (λ i. record {
          state = begun 1;
          root = root_part (o.link_bytes (sym a.begins i) (bytes_of o g (joint 0)));
          sending = chain_part (o.link_bytes (sym a.begins i) (bytes_of o g (joint 0)));
          taking = blank;
          half = o.half (first_draw i);
          keys = [];
        })

    second_holds : (party Second (start o secret)).held ≡ hold o g (begun 0)
    unfolding bytes_of root_of sending taking
    second_holds = λ i. record { state = begun 0; root = sym a.begins i; sending = blank; taking = blank; half = o.half (second_draw i); keys = [] }

    start_bytes : (who : Who) → Bytes o g (party who (start o secret))
    start_bytes First = record {
      held = first_holds ∙ ap (λ (h : Held). hold o g h.state) (sym first_holds);
      proper = λ l i. absurd (none l i);
    }
    start_bytes Second = record { held = second_holds; proper = λ l i. absurd (none l i) }

  start_own : (who : Who) → Own who (party who (start o secret))
  start_own First = new-own First _ (first_state (o.joint (draw_by First 0) (o.half (draw_by Second 0))))
  start_own Second = new-own Second _ refl

  start_opened : (who : Who) (l : Letter) → Has (party who (start o secret)).opened l → Has (party (model.other who) (start o secret)).left l
  start_opened First l h = absurd (none l h)
  start_opened Second l h = absurd (none l h)

  pub start_inv : Lawful o → Inv o secret (start o secret)
  start_inv k = record { own = start_own; opened = start_opened; bytes = start_bytes k; readings = λ g a. tt }
