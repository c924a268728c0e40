-- The blocks of an expansion, written one behind the other.
use Rattle.std.proofs.Common.{◌≡◌, ℕ, suc, ◌+◌, ◌-◌, ◌*◌, ◌/◌, ◌<◌, ◌≤◌, min, List, [], ◌∷◌, ◌++◌, length, take, drop, sym, refl, ap, ◌∙◌, add-one, arith, length-append, take-append-drop}
use native.Mathlib.Decide.{dec_lt}
use Rattle.std.proofs.lemmas.List.{append_assoc, append-nil, drop_all, length-take-le, take_all, take_at, nil_from_length}
use Rattle.digest.specs.Hkdf.{hkdf_t, expanded, joined}
use Rattle.digest.specs.Hmac.{hmac_sha_256}
use Rattle.digest.proofs.Lengths.{joined-more, joined-none, length-hkdf_t, length-joined}

hkdf_t-suc : (k info : List ℕ) (i : ℕ) → hkdf_t k info (suc i) ≡ hmac_sha_256 k (hkdf_t k info i ++ info ++ suc i ∷ [])
unfolding hkdf_t
hkdf_t-suc k info i = refl

pub hkdf_t-none : (k info : List ℕ) → hkdf_t k info 0 ≡ []
unfolding hkdf_t
hkdf_t-none k info = refl

-- nothing is nothing expanded
pub expanded-none : (k info out : List ℕ) → length out ≡ 0 → out ≡ expanded k info (length out)
unfolding expanded
expanded-none k info out h = nil_from_length out h ∙ sym (ap (λ (n : ℕ). take n (joined k info ((length out + 31) / 32))) h)

-- the block behind i of them, from the bytes that the code hands over
pub hkdf_t-more : (k info before r : List ℕ) (i n : ℕ) → before ≡ hkdf_t k info i → n ≡ i + 1 → r ≡ hmac_sha_256 k (before ++ info ++ n ∷ []) → r ≡ hkdf_t k info (i + 1)
hkdf_t-more k info before r i n was number here =
    let one = add-one i in
    let more = hkdf_t-suc k info i in
    cc

pub hkdf_t-whole : (k info block : List ℕ) (i : ℕ) → block ≡ hkdf_t k info (i + 1) → take (min (32 * (i + 1)) 32) block ≡ hkdf_t k info (i + 1)
hkdf_t-whole k info block i same =
    let len : length block ≡ 32 = ap length (same ∙ ap (hkdf_t k info) (add-one i)) ∙ length-hkdf_t k info i in
    take_all (min (32 * (i + 1)) 32) block (omega arith) ∙ same

module _ (k info out block p out' : List ℕ) (i len : ℕ) (size : len ≡ length out)
    (was : take (32 * i) out ≡ take (len) (joined k info i)) (same : block ≡ hkdf_t k info (i + 1))
    (cut : p ≡ take (min (len - 32 * i) 32) block)
    (put : out' ≡ take (32 * i) out ++ (p ++ drop (32 * i + length p) out)) (room : 32 * i < len) where
  front : take (32 * i) out ≡ joined k info i
  front = was ∙ take_all (len) (joined k info i) (omega (arith, length-joined k info i))

  more : joined k info (i + 1) ≡ joined k info i ++ block
  more = ap (joined k info) (add-one i) ∙ joined-more k info i ∙ ap (λ (b : List ℕ). joined k info i ++ b) (ap (hkdf_t k info) (sym (add-one i)) ∙ sym same)

  long : length block ≡ 32
  long = ap length (same ∙ ap (hkdf_t k info) (add-one i)) ∙ length-hkdf_t k info i

  lead : length (joined k info i) ≡ 32 * i
  lead = length-joined k info i

  -- the whole block finds room
  put_whole : 32 * i + 32 ≤ len → take (32 * (i + 1)) out' ≡ take (len) (joined k info (i + 1))
  put_whole fits =
      let whole : p ≡ block = cut ∙ take_all (min (len - 32 * i) 32) block (omega (arith, long)) in
      let a : List ℕ = joined k info i ++ block in
      let la : length a ≡ 32 * (i + 1) = length-append (joined k info i) block ∙ omega (arith, long, lead) in
      let rest : List ℕ = drop (32 * i + length block) out in
      let join = append_assoc (joined k info i) block rest in
      let now' = take_at a rest (32 * (i + 1)) la in
      let all = take_all (len) a (omega arith) in
      let e = front in
      let f = more in
      cc

  -- a part of the block fills the end
  put_part : len ≤ 32 * i + 32 → take (32 * (i + 1)) out' ≡ take (len) (joined k info (i + 1))
  put_part tight =
      let n : ℕ = len - 32 * i in
      let least : min (len - 32 * i) 32 ≡ n = omega arith in
      let lp : length p ≡ n = ap length cut ∙ length-take-le (min (len - 32 * i) 32) block (omega (arith, long)) ∙ least in
      let none = drop_all (32 * i + length p) out (omega arith) in
      let end = append-nil p in
      let a : List ℕ = joined k info i ++ p in
      let la : length a ≡ len = length-append (joined k info i) p ∙ omega (arith, lead) in
      let whole : out' ≡ a = (let e = front in cc) in
      let all = take_all (32 * (i + 1)) a (omega arith) in
      let halves = take-append-drop n block in
      let join = append_assoc (joined k info i) p (drop n block) in
      let now' = take_at a (drop n block) (len) la in
      let f = more in
      cc

  pub put_more : take (32 * (i + 1)) out' ≡ take (len) (joined k info (i + 1))
  put_more = elim (dec_lt (32 * i + 32) (len)) [ yes h ↦ put_whole (omega arith) | no h ↦ put_part (omega arith) ]

pub put_none : (k info : List ℕ) (len : ℕ) → [] ≡ take len (joined k info 0)
put_none k info len = sym (ap (take len) (joined-none k info) ∙ take_all len [] (omega arith))

pub put_all : (k info out : List ℕ) (i len : ℕ) → len ≡ length out → i ≡ (len + 31) / 32 → take (32 * i) out ≡ take len (joined k info i) → out ≡ expanded k info len
unfolding expanded
put_all k info out i len size count was =
    let all = take_all (32 * i) out (omega arith) in
    cc
