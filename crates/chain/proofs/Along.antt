-- A chain, place by place: its values, and the keys of the places passed over.
use Rattle.std.proofs.Common.{◌≡◌, ℕ, zero, suc, ◌+◌, ◌<◌, List, [], ◌∷◌, ◌++◌, length, get_or, take, set, sym, refl, ap, ◌∙◌, inl, inr, add-zero, add-suc, add-one, arith, length-append}
use Rattle.std.proofs.lemmas.Bool.{cases_lt}
use Rattle.std.proofs.lemmas.List.{get_or_append_left, get_or_push, take_all, take_more_set}
use Rattle.seal.specs.declared.keys.MessageKey.{MessageKey}
use Rattle.chain.specs.Secret.{Secret, next, along}
use Rattle.chain.specs.Bytes.{Ground, bytes_of, next_bytes, key_bytes, chain_along, keys_along}
use Rattle.chain.specs.Answers.{Skipped, Walked}

pub chain-none : (c : List ℕ) → c ≡ chain_along 0 c
unfolding chain_along
chain-none c = refl

pub chain_more : (n : ℕ) (c at after : List ℕ) → at ≡ chain_along n c → after ≡ next_bytes at → after ≡ chain_along (n + 1) c
unfolding chain_along
chain_more n c at after e f = rw add-one (f ∙ ap next_bytes e)

pub keys_none : (c : List ℕ) → [] ≡ keys_along 0 c
unfolding keys_along
keys_none c = refl

pub keys-more : (n : ℕ) (c at : List ℕ) (keys : List MessageKey) (here : MessageKey) → n < length keys →
    at ≡ chain_along n c → take n keys ≡ keys_along n c → here.0 ≡ key_bytes at → take (n + 1) (set keys n here) ≡ keys_along (n + 1) c
unfolding keys_along
keys-more n c at keys here h e f k =
    let same : here ≡ record { 0 = key_bytes (chain_along n c) } = ap (λ (x : List ℕ). record { 0 = x }) (k ∙ ap key_bytes e) in
    let more = take_more_set keys n here h in
    let grown : keys_along (n + 1) c ≡ keys_along n c ++ record { 0 = key_bytes (chain_along n c) } ∷ [] = rw add-one in
    cc

length-keys : (n : ℕ) (c : List ℕ) → length (keys_along n c) ≡ n
unfolding keys_along
length-keys zero c = refl
length-keys (suc n) c = length-append (keys_along n c) _ ∙ omega (arith, length-keys n c)

-- the key at each place is made from the chain's value there
pub keys-at : (n : ℕ) (c : List ℕ) (i : ℕ) (d : MessageKey) → i < n → get_or (keys_along n c) i d ≡ record { 0 = key_bytes (chain_along i c) }
unfolding keys_along
keys-at zero c i d h = absurd (omega arith)
keys-at (suc n) c i d h =
    let last : MessageKey = record { 0 = key_bytes (chain_along n c) } in
    elim (cases_lt i n) [
      | inl l ↦ get_or_append_left (keys_along n c) (last ∷ []) d i (omega (arith, length-keys n c)) ∙ keys-at n c i d l
      | inr g ↦ let is : i ≡ n = omega arith in
          ap (λ j. get_or (keys_along n c ++ last ∷ []) j d) is ∙ get_or_push (keys_along n c) last d n (length-keys n c)
          ∙ ap (λ j. record { 0 = key_bytes (chain_along j c) }) (sym is)
    ]

-- a chain's value along is the bytes of its recipe along
pub bytes_of-along : (g : Ground) (x : Secret) (i : ℕ) → chain_along i (bytes_of g x) ≡ bytes_of g (along i x)
unfolding chain_along bytes_of along
bytes_of-along g x zero = refl
bytes_of-along g x (suc i) = ap next_bytes (bytes_of-along g x i)

pub skipped : (i n : ℕ) (c after : List ℕ) → i ≡ n → after ≡ chain_along i c → Skipped c n after
skipped i n c after h e =
    let is : after ≡ chain_along n c = e ∙ ap (λ k. chain_along k c) h in
    record { chain_is = is; chain_made = λ g x f. is ∙ ap (chain_along n) f ∙ bytes_of-along g x n }

pub walked : (i n : ℕ) (c : List ℕ) (keys : List MessageKey) (after : List ℕ) → i ≡ n → length keys ≡ n →
    after ≡ chain_along i c → take i keys ≡ keys_along i c → Walked c n keys after
unfolding bytes_of
walked i n c keys after h len e f =
    let all : keys ≡ keys_along n c = sym (take_all i keys (omega arith)) ∙ f ∙ ap (λ k. keys_along k c) h in
    record {
      skipped = skipped i n c after h e;
      keys_are = all;
      keys_made = λ g x j p l.
          ap (λ (ks : List MessageKey). (get_or ks j (record { 0 = [] })).0) all
          ∙ ap (λ (k : MessageKey). k.0) (keys-at n c j (record { 0 = [] }) l)
          ∙ ap (λ (y : List ℕ). key_bytes (chain_along j y)) p ∙ ap key_bytes (bytes_of-along g x j);
    }

-- some places, and then some more
pub along-add : (i j : ℕ) (c : Secret) → along i (along j c) ≡ along (j + i) c
unfolding along
along-add zero j c = rw add-zero
along-add (suc i) j c = rw add-suc (ap next (along-add i j c))

pub chain-add : (i j : ℕ) (c : List ℕ) → chain_along i (chain_along j c) ≡ chain_along (j + i) c
unfolding chain_along
chain-add zero j c = rw add-zero
chain-add (suc i) j c = rw add-suc (ap next_bytes (chain-add i j c))
