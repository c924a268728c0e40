-- Each of what a side holds has 32 bytes.
use Rattle.std.proofs.Common.{◌≡◌, ℕ, zero, suc, List, [], ◌∷◌, length, refl, ◌∙◌, arith, length-drop, length-take-le}
use Rattle.std.specs.List.{AllByRecursion as All}
use Rattle.std.proofs.ByRecursion.{All-map}
use Rattle.ratchet.specs.declared.types.Mark.{Mark}
use Rattle.ratchet.specs.State.{State}
use Rattle.chain.specs.Secret.{joint, root_of, link_of, along, chain_at}
use Rattle.runs.specs.Stock.{sending, taking}
use Rattle.exchange.specs.Outside.{Outside, Lawful}
use Rattle.exchange.specs.Held.{Ground, draw_of, bytes_of, chain_bytes, key_bytes_of, hold}
use Rattle.exchange.specs.Promise.{Sized}

module _ (o : Outside) (k : Lawful o) (g : Ground) (secret : length g.secret ≡ 32) where
  root_length : (n : ℕ) → length (bytes_of o g (root_of n)) ≡ 32
  unfolding bytes_of root_of
  root_length zero = secret
  root_length (suc n) = length-take-le 32 (bytes_of o g (link_of n)) (omega (arith, k.link_length (bytes_of o g (root_of n)) (bytes_of o g (joint n))))

  chain_length : (l i : ℕ) → length (bytes_of o g (chain_at l i)) ≡ 32
  unfolding bytes_of along
  chain_length l zero = length-drop 32 (bytes_of o g (link_of l)) ∙ omega (arith, k.link_length (bytes_of o g (root_of l)) (bytes_of o g (joint l)))
  chain_length l (suc i) = k.next_length _

  sending_length : (d i : ℕ) → length (chain_bytes o g (sending d i)) ≡ 32
  unfolding sending
  sending_length zero i = refl
  sending_length (suc d) i = chain_length d i

  taking_length : (d i : ℕ) → length (chain_bytes o g (taking d i)) ≡ 32
  unfolding taking
  taking_length zero i = refl
  taking_length (suc zero) i = refl
  taking_length (suc (suc d)) i = chain_length d i

  key_length_lem : (m : Mark) → length (key_bytes_of o g m) ≡ 32
  unfolding bytes_of
  key_length_lem m = k.key_length _

  every : (P : Mark → Type 0) → ((m : Mark) → P m) → (xs : List Mark) → All P xs
  every P h [] = tt
  every P h (x ∷ xs) = (h x, every P h xs)

  pub sized : (s : State) → Sized (hold o g s)
  sized s = record {
    root = root_length s.drawn;
    sending = sending_length s.drawn s.sent;
    taking = taking_length s.drawn s.taken;
    half = k.half_length (draw_of g s.drawn);
    keys = All-map (λ b. length b ≡ 32) (key_bytes_of o g) s.skipped (every _ key_length_lem s.skipped);
  }
