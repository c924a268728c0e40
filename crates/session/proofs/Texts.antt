-- The text of a message under a key: opened exactly if its tag belongs to it.
use Rattle.std.proofs.Common.{◌≡◌, ℕ, ◌-◌, ◌≤◌, true, List, length, take, drop, Some, None, Ok, Err, Option, Result, MatchOption, sym, ap, ◌∙◌, subst, inl, inr, arith}
use Rattle.std.specs.Result.{result_ok}
use Rattle.std.proofs.lemmas.List.{take_at, length-take-le, length-drop}
use Rattle.std.proofs.lemmas.Bool.{cases_Bool, cond-true, cond-false}
use Rattle.seal.specs.Answers.{Opened, OpenRefusal, OpenAnswer}
use Rattle.seal.specs.Sealing.{covered, tag_of, body_text, body_tag, Genuine}
use Rattle.seal.specs.declared.sealing.OpenError.{OpenError}
use Rattle.seal.specs.declared.sealing.OpenError.TheVariants.{TooLong, NoRoom, Forged}
use Rattle.exchange.specs.Outside.{unseal, same_bytes}
use Rattle.exchange.proofs.Tags.{same_bytes_lem, bytes_same}
use Rattle.session.specs.Ours.{AnyBox}
use Rattle.session.proofs.Written.{length-covered}

module _ (key header body before after : List ℕ) where
  -- the tag is that of the header and the covered text
  pub text_opens : (size : ℕ) → length body ≤ 1016 → Opened key header body before after size → (size ≤ 1000) × AnyBox (λ o. unseal o key header body ≡ Some (take size after))
  unfolding unseal
  text_opens size short a = (
    omega (arith, a.counted),
    λ scheme.
        let same : same_bytes (body_tag body) (tag_of key header (body_text body)) ≡ true = ap (same_bytes (body_tag body)) (sym a.genuine.tag) ∙ bytes_same (body_tag body) in
        let long : length (covered key (body_text body)) ≡ size = length-covered key (body_text body) ∙ length-take-le (length body - 16) body (omega arith) ∙ omega (arith, a.counted) in
        let front : take size after ≡ covered key (body_text body) = ap (take size) a.output ∙ take_at (covered key (body_text body)) (drop size before) size long in
        cond-true _ (Some (covered key (body_text body))) None same ∙ ap Some (sym front),
  )

  -- or it is another
  pub text_shut : 16 ≤ length body → (Genuine key header body → ⊥) → AnyBox (λ o. unseal o key header body ≡ None)
  unfolding unseal
  text_shut long other = λ scheme.
      elim (cases_Bool (same_bytes (body_tag body) (tag_of key header (body_text body)))) [
        | inl same ↦ absurd (other (record { long = long; tag = same_bytes_lem (body_tag body) (tag_of key header (body_text body)) same }))
        | inr not ↦ cond-false _ (Some (covered key (body_text body))) None not
      ]

  -- with room for it, and not too long for the stream, nothing else keeps it shut
  pub text_refused : (why : OpenError) (room : ℕ) → 16 ≤ length body → length body ≤ 1016 → room ≡ 1000 → OpenRefusal key header body room why → AnyBox (λ o. unseal o key header body ≡ None)
  text_refused TooLong room long short is r = absurd (r (omega arith))
  text_refused NoRoom room long short is r = absurd (omega (arith, r.1))
  text_refused Forged room long short is r = text_shut long r.2

-- the same of what was answered, of all the bytes of a message
module _ (key m before after header body : List ℕ) (front : header ≡ take 47 m) (back : body ≡ drop 47 m) (long : 63 ≤ length m) (short : length m ≤ 1063) (room : length before ≡ 1000) where
  size : length body ≡ length m - 47
  size = ap length back ∙ length-drop 47 m

  Text : Option ℕ → (header body : List ℕ) → Type 0
  Text x h b = MatchOption x (AnyBox (λ o. unseal o key h b ≡ None)) (λ n. (n ≤ 1000) × AnyBox (λ o. unseal o key h b ≡ Some (take n after)))

  answered : (r : Result ℕ OpenError) → OpenAnswer key header body before after r → Text (result_ok r) header body
  unfolding Text
  answered (Ok n) a = let l = size in text_opens key header body before after n (omega arith) a
  answered (Err why) a = let l = size in text_refused key header body before after why (length before) (omega arith) (omega arith) room a.reason

  pub text_answered : (r : Result ℕ OpenError) (x : Option ℕ) → x ≡ result_ok r → OpenAnswer key header body before after r →
      MatchOption x (AnyBox (λ o. unseal o key (take 47 m) (drop 47 m) ≡ None)) (λ n. (n ≤ 1000) × AnyBox (λ o. unseal o key (take 47 m) (drop 47 m) ≡ Some (take n after)))
  unfolding Text
  text_answered r x e a =
      subst (λ (y : Option ℕ). Text y (take 47 m) (drop 47 m)) (sym e)
      (subst (λ (b : List ℕ). Text (result_ok r) (take 47 m) b) back (subst (λ (h : List ℕ). Text (result_ok r) h body) front (answered r a)))
