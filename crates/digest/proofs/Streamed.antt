-- The streaming form: what each call makes of the message so far.
use Rattle.std.proofs.Common.{◌≡◌, ℕ, suc, ◌+◌, ◌-◌, ◌*◌, ◌/◌, ◌%◌, ◌^◌, min, List, [], ◌++◌, length, take, drop, replicate, sym, refl, ap, ◌∙◌, arith, length-append, length-drop, take-append-drop}
use Rattle.std.proofs.lemmas.List.{append_assoc, append-nil, drop_all, drop-append-le, drop_at, drop-drop, length-take-le, take_all, take_at}
use Rattle.digest.specs.Sha256.{absorbed, compressed, initial, padded, padding, zeros}
use Rattle.digest.specs.Streaming.{Holds, fresh}
use Rattle.digest.specs.declared.streaming.Hasher.{Hasher}
use Rattle.digest.proofs.Absorbed.{absorbed-none, absorbed-more, absorbed-front, absorbed-add}

pub holds-none : (x : Hasher) → x.value ≡ initial → x.count ≡ 0 → Holds x []
holds-none x value count =
    record { blocks = 0; whole = omega arith; rest = omega arith; value = value ∙ sym (absorbed-none initial []); pending = refl; count = count }

pub fresh-from : (v p : List ℕ) (n : ℕ) → v ≡ initial → p ≡ replicate 64 0 → n ≡ 0
    → ◌≡◌ {A = Hasher} (record { value = v; pending = p; count = n }) fresh
unfolding fresh
fresh-from v p n value pending count = cc

pub fresh_holds : Holds fresh []
unfolding fresh
fresh_holds = holds-none fresh refl refl

same-padding : (u l n k : ℕ) → u % 64 ≡ l % 64 → n ≡ k → padding u n ≡ padding l k
unfolding padding zeros
same-padding u l n k e f = cc

-- the state's last bytes with their padding finish the whole message's blocks
pub close_holds : (x : Hasher) (m : List ℕ) (u n : ℕ) → Holds x m → u ≡ x.count % 64 → n ≡ x.count * 8 % 2 ^ 64
    → absorbed x.value (take u x.pending ++ padding u n) (length (take u x.pending ++ padding u n) / 64)
    ≡ absorbed initial (padded m) (length (padded m) / 64)
unfolding padded
close_holds x m u n h used bits =
    let b : ℕ = h.blocks in
    let p : List ℕ = padding (length m) (length m * 8 % 2 ^ 64) in
    let q : List ℕ = take u x.pending ++ padding u n in
    let at : u ≡ length m - 64 * b = omega (arith, h.whole, h.rest, h.count) in
    let left = h.pending in
    let same : padding u n ≡ p = same-padding u (length m) n (length m * 8 % 2 ^ 64) (omega (arith, h.whole, h.rest)) (omega (arith, h.count)) in
    let behind = drop-append-le (64 * b) m p h.whole in
    let rest : q ≡ drop (64 * b) (m ++ p) = cc in
    let front = absorbed-front initial m p b h.whole in
    let value = h.value in
    let more = absorbed-add initial (m ++ p) b (length q / 64) in
    let lm = length-append m p in
    let lq : length q ≡ length (m ++ p) - 64 * b = ap length rest ∙ length-drop (64 * b) (m ++ p) in
    let turns : length (m ++ p) / 64 ≡ b + length q / 64 = omega (arith, h.whole) in
    cc

-- all of the part finds room behind the pending bytes
pub holds-short : (x y : Hasher) (m part s : List ℕ) (u f : ℕ) → Holds x m → length x.pending ≡ 64
    → u ≡ x.count % 64 → f ≡ min (length part) (64 - u) → (u + f ≡ 64 → ⊥) → s ≡ take f part
    → y.pending ≡ take u x.pending ++ (s ++ drop (u + length s) x.pending)
    → y.value ≡ x.value → y.count ≡ (x.count + length part) % 2 ^ 64
    → Holds y (m ++ part)
holds-short x y m part s u f h wide used first room cut put value count =
    let b : ℕ = h.blocks in
    let at : u ≡ length m - 64 * b = omega (arith, h.whole, h.rest, h.count) in
    let all : f ≡ length part = omega arith in
    let same : s ≡ part = cut ∙ take_all f part (omega arith) in
    let len = length-append m part in
    let lt : length (take u x.pending) ≡ u = length-take-le u x.pending (omega arith) in
    let front : List ℕ = take u x.pending ++ part in
    let lf : length front ≡ length (m ++ part) - 64 * b = length-append (take u x.pending) part ∙ omega (arith, h.whole) in
    let join = append_assoc (take u x.pending) part (drop (u + length part) x.pending) in
    let taken = take_at front (drop (u + length part) x.pending) (length (m ++ part) - 64 * b) lf in
    let left = h.pending in
    let behind = drop-append-le (64 * b) m part h.whole in
    let kept = absorbed-front initial m part b h.whole in
    let was = h.value in
    record {
      blocks = b;
      whole = omega (arith, h.whole);
      rest = omega (arith, h.whole);
      value = cc;
      pending = cc;
      count = omega (arith, h.count);
    }

-- the part fills the pending block, whole blocks follow, and the rest is pending
pub holds-long : (x y : Hasher) (m part s p₁ next r s₂ : List ℕ) (u f : ℕ) → Holds x m → length x.pending ≡ 64
    → u ≡ x.count % 64 → f ≡ min (length part) (64 - u) → u + f ≡ 64 → s ≡ take f part
    → p₁ ≡ take u x.pending ++ (s ++ drop (u + length s) x.pending)
    → next ≡ compressed x.value p₁ → r ≡ drop f part → y.value ≡ absorbed next r (length r / 64)
    → s₂ ≡ drop (64 * (length r / 64)) r → y.pending ≡ s₂ ++ drop (0 + length s₂) p₁
    → y.count ≡ (x.count + length part) % 2 ^ 64
    → Holds y (m ++ part)
holds-long x y m part s p₁ next r s₂ u f h wide used first full cut put turned rest value left₂ put₂ count =
    let b : ℕ = h.blocks in
    let k : ℕ = length r / 64 in
    let at : u ≡ length m - 64 * b = omega (arith, h.whole, h.rest, h.count) in
    let t : List ℕ = take u x.pending in
    let lt : length t ≡ u = length-take-le u x.pending (omega arith) in
    let ls : length s ≡ f = ap length cut ∙ length-take-le f part (omega arith) in
    let none = drop_all (u + length s) x.pending (omega arith) in
    let end = append-nil s in
    let q : List ℕ = t ++ s in
    let block : p₁ ≡ q = cc in
    let lq : length q ≡ 64 = length-append t s ∙ omega arith in
    let whole_part = take-append-drop f part in
    let join = append_assoc t s r in
    let in_two : t ++ part ≡ q ++ r = cc in
    let pending = h.pending in
    let behind = drop-append-le (64 * b) m part h.whole in
    let tail : drop (64 * b) (m ++ part) ≡ q ++ r = cc in
    let front = take_at q r 64 lq in
    let back = drop_at q r 64 lq in
    let kept = absorbed-front initial m part b h.whole in
    let was = h.value in
    let one : absorbed initial (m ++ part) (suc b) ≡ next = (let more = absorbed-more initial (m ++ part) b in cc) in
    let places : 64 * suc b ≡ 64 * b + 64 = omega arith in
    let twice = drop-drop 64 (64 * b) (m ++ part) in
    let past : drop (64 * suc b) (m ++ part) ≡ r = cc in
    let more = absorbed-add initial (m ++ part) (suc b) k in
    let len = length-append m part in
    let lr : length r ≡ length part - f = ap length rest ∙ length-drop f part in
    let ls₂ : length s₂ ≡ length r - 64 * k = ap length left₂ ∙ length-drop (64 * k) r in
    let size : length s₂ ≡ length (m ++ part) - 64 * (suc b + k) = omega (arith, h.whole) in
    let taken = take_at s₂ (drop (0 + length s₂) p₁) (length (m ++ part) - 64 * (suc b + k)) size in
    let places₂ : 64 * (suc b + k) ≡ 64 * suc b + 64 * k = omega arith in
    let twice₂ = drop-drop (64 * k) (64 * suc b) (m ++ part) in
    record {
      blocks = suc b + k;
      whole = omega (arith, h.whole);
      rest = omega (arith, h.whole);
      value = cc;
      pending = cc;
      count = omega (arith, h.count);
    }
