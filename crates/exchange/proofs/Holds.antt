-- Each step of a side that holds what the model says: it then holds what the model's step says, and opens with the model's key.
use Rattle.std.proofs.Common.{◌≡◌, ℕ, suc, ◌+◌, ◌-◌, ◌<◌, ◌≤◌, true, leb, List, ◌++◌, map, sym, refl, ap, ◌∙◌, inl, inr, arith}
use Rattle.std.proofs.lemmas.List.{map-append}
use Rattle.std.proofs.lemmas.Bool.{cases_Bool, leb-true, cond-false}
use Rattle.ratchet.specs.State.{State, has, places}
use Rattle.ratchet.specs.Steps.{message, sends, passed, advanced, recalled, left, turned}
use Rattle.chain.specs.Secret.{joint, root_of, along, chain_at, key_at}
use Rattle.runs.specs.Stock.{sending, taking}
use Rattle.exchange.specs.Outside.{Draw, Outside}
use Rattle.exchange.specs.Wire.{Parts}
use Rattle.exchange.specs.Held.{Ground, root_part, chain_part, draw_of, bytes_of, chain_bytes, key_bytes_of, hold}
use Rattle.exchange.specs.Exchanges.{walked, keys_along, sent_on, held_in_turn, key_aside, held_recalled, held_new}
use Rattle.exchange.proofs.Recipes.{aside-key, aside-without, walk, walk_key, walk_keys, sends_on, takes_on}

module _ (o : Outside) (g : Ground) (s : State) where
  -- ### Sending

  pub sends_holds : 0 < s.drawn → sent_on o (hold o g s) ≡ hold o g (sends s)
  unfolding walked
  sends_holds d =
      let l : s.drawn ≡ s.drawn - 1 + 1 = omega arith in
      let chain =
      ap o.next_bytes (sends_on o g s.drawn (s.drawn - 1) s.sent l)
      ∙ (walk o g _ s.sent 1 (s.sent + 1) refl ∙ sym (sends_on o g s.drawn (s.drawn - 1) (s.sent + 1) l)) in
      λ i. record {
        state = sends s;
        root = (hold o g s).root;
        sending = chain i;
        taking = (hold o g s).taking;
        half = (hold o g s).half;
        keys = (hold o g s).keys;
      }

  pub sends_key : 0 < s.drawn → o.key_bytes (hold o g s).sending ≡ key_bytes_of o g (message s).mark
  unfolding bytes_of
  sends_key d = let l : s.drawn ≡ s.drawn - 1 + 1 = omega arith in ap o.key_bytes (sends_on o g s.drawn (s.drawn - 1) s.sent l)

  module _ (p : Parts) where
    -- ### In turn

    module _ (on : p.message.mark.link + 2 ≡ s.drawn) (next : s.taken ≤ p.message.mark.place) where
      in-turn-chain : (hold o g s).taking ≡ bytes_of o g (chain_at p.message.mark.link s.taken)
      in-turn-chain = takes_on o g s.drawn p.message.mark.link s.taken (sym on)

      pub in_turn_key : o.key_bytes (walked o (passed s p.message) (hold o g s).taking) ≡ key_bytes_of o g p.message.mark
      in_turn_key =
          let n : p.message.mark.place ≡ s.taken + passed s p.message = omega arith in
          ap (λ c. o.key_bytes (walked o (passed s p.message) c)) in-turn-chain ∙ walk_key o g p.message.mark.link s.taken (passed s p.message) p.message.mark.place n

      pub in_turn_holds : held_in_turn o (hold o g s) p ≡ hold o g (advanced s p.message)
      in_turn_holds =
          let n : p.message.mark.place + 1 ≡ s.taken + (passed s p.message + 1) = omega arith in
          let chain =
          ap (walked o (passed s p.message + 1)) in-turn-chain
          ∙ (walk o g _ s.taken (passed s p.message + 1) (p.message.mark.place + 1) n
          ∙ sym (takes_on o g s.drawn p.message.mark.link (p.message.mark.place + 1) (sym on))) in
          let aside =
          ap (λ c. map (key_bytes_of o g) s.skipped ++ keys_along o (passed s p.message) c) in-turn-chain
          ∙ (ap (λ ks. map (key_bytes_of o g) s.skipped ++ ks) (walk_keys o g p.message.mark.link s.taken (passed s p.message))
          ∙ sym (map-append (key_bytes_of o g) s.skipped _)) in
          λ i. record {
            state = advanced s p.message;
            root = (hold o g s).root;
            sending = (hold o g s).sending;
            taking = chain i;
            half = (hold o g s).half;
            keys = aside i;
          }

    -- ### Put aside

    pub recalled_key : has p.message.mark s.skipped ≡ true → key_aside p.message.mark s.skipped (hold o g s).keys ≡ key_bytes_of o g p.message.mark
    recalled_key h = aside-key (key_bytes_of o g) p.message.mark s.skipped h

    pub recalled_holds : held_recalled (hold o g s) p ≡ hold o g (recalled s p.message)
    recalled_holds = let aside = aside-without (key_bytes_of o g) p.message.mark s.skipped in λ i. record {
      state = recalled s p.message;
      root = (hold o g s).root;
      sending = (hold o g s).sending;
      taking = (hold o g s).taking;
      half = (hold o g s).half;
      keys = aside i;
    }

    -- ### A new link

    -- its bytes, and the beginning of its chain
    abbrev linked : List ℕ
    linked = o.link_bytes (hold o g s).root (bytes_of o g (joint s.drawn))

    begins : chain_part linked ≡ bytes_of o g (chain_at s.drawn 0)
    unfolding bytes_of along
    begins = refl

    module _ (new : p.message.mark.link ≡ s.drawn) where
      pub new_key : o.key_bytes (walked o p.message.mark.place (chain_part linked)) ≡ key_bytes_of o g p.message.mark
      new_key =
          let n : p.message.mark.place ≡ 0 + p.message.mark.place = omega arith in
          ap (λ c. o.key_bytes (walked o p.message.mark.place c)) begins
          ∙ (walk_key o g s.drawn 0 p.message.mark.place p.message.mark.place n
          ∙ ap (λ l. bytes_of o g (key_at l p.message.mark.place)) (sym new))

      -- what is left of the old link; there is none with fewer than two keys drawn
      rest : keys_along o (left s p.message) (hold o g s).taking ≡ map (key_bytes_of o g) (places (s.drawn - 2) s.taken (left s p.message))
      unfolding keys_along places
      rest = elim (cases_Bool (leb 2 s.drawn)) [
        | inl t ↦
            let l : s.drawn ≡ s.drawn - 2 + 2 = omega (arith, leb-true 2 s.drawn t) in
            ap (keys_along o (left s p.message)) (takes_on o g s.drawn (s.drawn - 2) s.taken l) ∙ walk_keys o g (s.drawn - 2) s.taken (left s p.message)
        | inr f ↦ rw (cond-false (leb 2 s.drawn) (p.message.before - s.taken) 0 f)
      ]

      passed_over : keys_along o p.message.mark.place (chain_part linked) ≡ map (key_bytes_of o g) (places p.message.mark.link 0 p.message.mark.place)
      passed_over =
          ap (keys_along o p.message.mark.place) begins
          ∙ (walk_keys o g s.drawn 0 p.message.mark.place ∙ ap (λ l. map (key_bytes_of o g) (places l 0 p.message.mark.place)) (sym new))

      aside : (hold o g s).keys ++ keys_along o (left s p.message) (hold o g s).taking ++ keys_along o p.message.mark.place (chain_part linked)
          ≡ map (key_bytes_of o g) (turned s p.message).skipped
      aside =
          (λ i. (hold o g s).keys ++ rest i ++ passed_over i)
          ∙ sym (map-append (key_bytes_of o g) (s.skipped ++ places (s.drawn - 2) s.taken (left s p.message)) _
          ∙ ap (λ ks. ks ++ map (key_bytes_of o g) (places p.message.mark.link 0 p.message.mark.place)) (map-append (key_bytes_of o g) s.skipped _))

      -- the link that is made with the fresh key
      abbrev onward : List ℕ
      onward = o.link_bytes (root_part linked) (bytes_of o g (joint (suc s.drawn)))

      next_root : root_part onward ≡ bytes_of o g (root_of (s.drawn + 2))
      unfolding bytes_of root_of
      next_root = let e : suc (suc s.drawn) ≡ s.drawn + 2 = omega arith in ap (λ n. bytes_of o g (root_of n)) e

      next_chain : chain_part onward ≡ chain_bytes o g (sending (s.drawn + 2) 0)
      unfolding bytes_of root_of along
      next_chain = sym (sends_on o g (s.drawn + 2) (suc s.drawn) 0 (omega arith))

      new_chain : walked o (p.message.mark.place + 1) (chain_part linked) ≡ chain_bytes o g (taking (s.drawn + 2) (p.message.mark.place + 1))
      new_chain =
          let n : p.message.mark.place + 1 ≡ 0 + (p.message.mark.place + 1) = omega arith in
          ap (walked o (p.message.mark.place + 1)) begins
          ∙ (walk o g _ 0 (p.message.mark.place + 1) (p.message.mark.place + 1) n
          ∙ sym (takes_on o g (s.drawn + 2) s.drawn (p.message.mark.place + 1) refl))

      pub new_holds : (fresh : Draw) → fresh ≡ draw_of g (s.drawn + 2) →
          held_new o fresh (hold o g s) p (bytes_of o g (joint s.drawn)) (bytes_of o g (joint (suc s.drawn))) ≡ hold o g (turned s p.message)
      new_holds fresh f = λ i. record {
        state = turned s p.message;
        root = next_root i;
        sending = next_chain i;
        taking = new_chain i;
        half = o.half (f i);
        keys = aside i;
      }
