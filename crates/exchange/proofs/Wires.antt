-- Messages as bytes: reading gives back what was written, and reads nothing else.
use Rattle.std.proofs.Common.{◌≡◌, ℕ, ◌+◌, ◌-◌, ◌*◌, ◌/◌, ◌%◌, ◌^◌, ◌<◌, ◌≤◌, Bool, true, false, cond, eqb, List, [], ◌∷◌, ◌++◌, length, get_or, take, drop, Some, None, sym, refl, ap, ◌∙◌, append_assoc, arith, length-append, length-drop, take-append-drop, length-take-le, drop-drop, take_at, take-add, drop_at}
use native.Mathlib.Nat.{div-div-eq-div-mul}
use Rattle.std.specs.List.{AllByRecursion as All}
use Rattle.std.proofs.ByRecursion.{All-get_or}
use Rattle.std.proofs.lemmas.List.{get_or-append_right, drop_more}
use Rattle.std.proofs.lemmas.Bool.{and_parts, and_from, eqb-true, eq-eqb, leb-true, le-leb, cond-true}
use Rattle.ratchet.specs.declared.types.Message.{Message}
use Rattle.exchange.specs.Wire.{four_bytes, two_bytes, header_bytes, four_at, two_at, Parts, well_formed, parts_of, read_message, Writable, header_of, Round, Made, WireLaws}

-- ### Numbers of two and of four bytes

-- one byte after another, the low one first
digits : (n a b c : ℕ) → a ≡ n / 256 → b ≡ a / 256 → c ≡ b / 256 → n < 2 ^ 32 → (c % 256) * 16777216 + (b % 256) * 65536 + (a % 256) * 256 + n % 256 ≡ n
digits n a b c e f g h = omega arith

pub two-value : (n : ℕ) → n < 2 ^ 16 → (n / 256 % 256) * 256 + n % 256 ≡ n
two-value n h = omega arith

pub four-read : (n : ℕ) → n < 2 ^ 32 → (n / 16777216 % 256) * 16777216 + (n / 65536 % 256) * 65536 + (n / 256 % 256) * 256 + n % 256 ≡ n
four-read n = digits n (n / 256) (n / 65536) (n / 16777216) refl (sym (div-div-eq-div-mul n 256 256)) (sym (div-div-eq-div-mul n 65536 256))

-- ### Writing, then reading

pub header-length : (m : Message) (half : List ℕ) (n : ℕ) → length half ≡ 32 → length (header_bytes m half n) ≡ 47
unfolding header_bytes
header-length m half n h = omega (arith, length-append half (two_bytes n))

module _ (m : Message) (half body : List ℕ) (w : Writable m half body) where
  abbrev size : ℕ
  size = length body - 16

  abbrev bytes : List ℕ
  bytes = header_bytes m half size ++ body

  -- the two bytes of the length stand behind the half
  behind : (i : ℕ) → get_or ((half ++ two_bytes size) ++ body) (32 + i) 0 ≡ get_or (two_bytes size ++ body) i 0
  behind i =
      ap (λ xs. get_or xs (32 + i) 0) (append_assoc half (two_bytes size) body)
      ∙ (get_or-append_right half (two_bytes size ++ body) 32 (32 + i) 0 w.half_length (omega arith)
      ∙ ap (λ k. get_or (two_bytes size ++ body) k 0) (let e : 32 + i - 32 ≡ i = omega arith in e))

  size_read : two_at bytes 45 ≡ size
  unfolding header_bytes
  size_read = let a = behind 0 in let b = behind 1 in omega (arith, w.short)

  first : eqb (get_or bytes 0 0) 82 ≡ true
  unfolding header_bytes
  first = refl

  well : well_formed bytes ≡ true
  well =
      and_from _ _ first (and_from _ _
      (eq-eqb (length bytes) (63 + two_at bytes 45) (omega (arith, size_read, length-append (header_bytes m half size) body, header-length m half size w.half_length, w.tagged)))
      (le-leb (two_at bytes 45) 1000 (omega (arith, size_read, w.short))))

  numbers : (parts_of bytes).message ≡ m
  unfolding header_bytes
  numbers =
      let l : four_at bytes 1 ≡ m.mark.link = four-read m.mark.link w.link in
      let p : four_at bytes 5 ≡ m.mark.place = four-read m.mark.place w.place in
      let b : four_at bytes 9 ≡ m.before = four-read m.before w.before in
      λ i. record { mark = record { link = l i; place = p i }; before = b i }

  half_read : take 32 (drop 13 bytes) ≡ half
  unfolding header_bytes
  half_read = ap (take 32) (append_assoc half (two_bytes size) body) ∙ take_at half (two_bytes size ++ body) 32 w.half_length

  pub round : Round m half body
  unfolding read_message
  round = let n = header-length m half size w.half_length in record {
    header_length = n;
    back =
        cond-true (well_formed bytes) (Some (parts_of bytes)) None well
        ∙ ap Some (λ i. record {
          header = take_at (header_bytes m half size) body 47 n i;
          message = numbers i;
          half = half_read i;
          body = drop_at (header_bytes m half size) body 47 n i;
        });
  }

-- ### Reading

-- what is read is well formed
pub read_well : (bs : List ℕ) (p : Parts) → read_message bs ≡ Some p → (well_formed bs ≡ true) × (p ≡ parts_of bs)
unfolding read_message
read_well bs p h = go (well_formed bs) refl h
  where
    go : (b : Bool) → well_formed bs ≡ b → cond b (Some (parts_of bs)) None ≡ Some p → (well_formed bs ≡ true) × (p ≡ parts_of bs)
    go true e k = (e, cc)
    go false e k = let z : ◌≡◌ {A = ℕ} 0 1 = cc in absurd (omega arith)

pub record Well (bs : List ℕ) : Type 0 where
  pub first : get_or bs 0 0 ≡ 82
  pub size : length bs ≡ 63 + two_at bs 45
  pub short : two_at bs 45 ≤ 1000

pub well-so : (bs : List ℕ) → well_formed bs ≡ true → Well bs
well-so bs h =
    let a = and_parts (eqb (get_or bs 0 0) 82) _ h in
    let b = and_parts (eqb (length bs) (63 + two_at bs 45)) _ a.1 in
    record { first = eqb-true (get_or bs 0 0) 82 a.0; size = eqb-true (length bs) (63 + two_at bs 45) b.0; short = leb-true (two_at bs 45) 1000 b.1 }

-- four bytes that stand at a place are those of the number that is read there
module _ (bs : List ℕ) (bytes : All (λ b. b < 256) bs) where
  byte : (i : ℕ) → i < length bs → get_or bs i 0 < 256
  byte i h = All-get_or (λ b. b < 256) bs i 0 h bytes

  one_taken : (i : ℕ) → i < length bs → drop i bs ≡ get_or bs i 0 ∷ drop (i + 1) bs
  one_taken i h = drop_more bs i 0 h

  two_taken : (i : ℕ) → i + 2 ≤ length bs → take 2 (drop i bs) ≡ get_or bs i 0 ∷ get_or bs (i + 1) 0 ∷ []
  two_taken i h =
      let e : i + 1 + 1 ≡ i + 2 = omega arith in
      ap (take 2) (one_taken i (omega arith) ∙ ap (λ xs. get_or bs i 0 ∷ xs) (one_taken (i + 1) (omega arith)))

  pub two_back : (i : ℕ) → i + 2 ≤ length bs → take 2 (drop i bs) ≡ two_bytes (two_at bs i)
  two_back i h =
      let a = byte i (omega arith) in
      let b = byte (i + 1) (omega arith) in
      let x : get_or bs i 0 ≡ two_at bs i / 256 % 256 = omega arith in
      let y : get_or bs (i + 1) 0 ≡ two_at bs i % 256 = omega arith in
      two_taken i h ∙ (λ j. x j ∷ y j ∷ [])

  four_taken : (i : ℕ) → i + 4 ≤ length bs → take 4 (drop i bs) ≡ get_or bs i 0 ∷ get_or bs (i + 1) 0 ∷ get_or bs (i + 2) 0 ∷ get_or bs (i + 3) 0 ∷ []
  four_taken i h =
      let e : i + 2 + 1 ≡ i + 3 = omega arith in
      take-add 2 2 (drop i bs) ∙ (λ j. two_taken i (omega arith) j ++ (ap (take 2) (drop-drop 2 i bs) ∙ two_taken (i + 2) (omega arith)) j) ∙ ap (λ k. get_or bs i 0 ∷ get_or bs (i + 1) 0 ∷ get_or bs (i + 2) 0 ∷ get_or bs k 0 ∷ []) e

  pub four_back : (i : ℕ) → i + 4 ≤ length bs → take 4 (drop i bs) ≡ four_bytes (four_at bs i)
  four_back i h =
      let a = byte i (omega arith) in
      let b = byte (i + 1) (omega arith) in
      let c = byte (i + 2) (omega arith) in
      let d = byte (i + 3) (omega arith) in
      let x : get_or bs i 0 ≡ four_at bs i / 16777216 % 256 = omega arith in
      let y : get_or bs (i + 1) 0 ≡ four_at bs i / 65536 % 256 = omega arith in
      let z : get_or bs (i + 2) 0 ≡ four_at bs i / 256 % 256 = omega arith in
      let u : get_or bs (i + 3) 0 ≡ four_at bs i % 256 = omega arith in
      four_taken i h ∙ (λ j. x j ∷ y j ∷ z j ∷ u j ∷ [])

  pub four_below : (i : ℕ) → i + 4 ≤ length bs → four_at bs i < 2 ^ 32
  four_below i h = omega (arith, byte i (omega arith), byte (i + 1) (omega arith), byte (i + 2) (omega arith), byte (i + 3) (omega arith))

  module _ (w : Well bs) where
    -- the 47 bytes of the header, part by part
    in_parts : take 47 bs ≡ take 1 bs ++ take 4 (drop 1 bs) ++ take 4 (drop 5 bs) ++ take 4 (drop 9 bs) ++ take 32 (drop 13 bs) ++ take 2 (drop 45 bs)
    in_parts =
        let a = take-add 1 4 bs in
        let b = take-add 5 4 bs in
        let c = take-add 9 4 bs in
        let d = take-add 13 32 bs in
        let e = take-add 45 2 bs in
        cc

    first_taken : take 1 bs ≡ 82 ∷ []
    first_taken = ap (take 1) (one_taken 0 (omega (arith, w.size))) ∙ ap (λ b. b ∷ []) w.first

    size_is : length (drop 47 bs) - 16 ≡ two_at bs 45
    size_is = omega (arith, length-drop 47 bs, w.size)

    header_is : take 47 bs ≡ header_of (parts_of bs).message (parts_of bs).half (parts_of bs).body
    unfolding header_bytes
    header_is =
        let l = four_back 1 (omega (arith, w.size)) in
        let p = four_back 5 (omega (arith, w.size)) in
        let b = four_back 9 (omega (arith, w.size)) in
        let n = two_back 45 (omega (arith, w.size)) ∙ ap two_bytes (sym size_is) in
        in_parts ∙ (λ i. first_taken i ++ l i ++ p i ++ b i ++ take 32 (drop 13 bs) ++ n i)

    well_made : Made bs (parts_of bs)
    well_made = record {
      writable = record {
        link = four_below 1 (omega (arith, w.size));
        place = four_below 5 (omega (arith, w.size));
        before = four_below 9 (omega (arith, w.size));
        half_length = length-take-le 32 (drop 13 bs) (omega (arith, length-drop 13 bs, w.size));
        tagged = omega (arith, length-drop 47 bs, w.size);
        short = omega (arith, length-drop 47 bs, w.size, w.short);
      };
      header = header_is;
      whole = sym (take-append-drop 47 bs);
    }

made : (bs : List ℕ) (p : Parts) → All (λ b. b < 256) bs → read_message bs ≡ Some p → Made bs p
made bs p bytes h = let r = read_well bs p h in rw r.1 (well_made bs bytes (well-so bs r.0))

pub wire_laws : WireLaws
wire_laws = record { round = round; made = made }
