-- The lengths of digests, tags and key material, and that each of their elements is a byte.
use Rattle.std.proofs.Common.{◌≡◌, ℕ, zero, suc, ◌+◌, ◌*◌, ◌/◌, ◌<◌, List, [], ◌∷◌, ◌++◌, length, sym, refl, ap, ◌∙◌, arith, length-append}
use Rattle.std.specs.List.{AllByRecursion as All}
use Rattle.std.proofs.ByRecursion.{All-append, All-take}
use Rattle.std.proofs.lemmas.List.{length-take-le}
use Rattle.digest.specs.Hkdf.{hkdf_t, expanded, extracted, hkdf_sha_256, joined}
use Rattle.digest.specs.Hmac.{hmac_sha_256}
use Rattle.digest.specs.Sha256.{absorbed, bytes, compressed, initial, padded, parsed, round, rounds, schedule, sha_256, sums, word_bytes}
use Rattle.digest.proofs.Absorbed.{absorbed-more, absorbed-none}
use Rattle.digest.proofs.Bytes.{length-bytes_of}
use Rattle.digest.proofs.Schedule.{rounds-more}

length-sums : (xs ys : List ℕ) → length xs ≡ length ys → length (sums xs ys) ≡ length xs
unfolding sums
length-sums [] ys e = refl
length-sums (x ∷ xs) [] e = absurd (omega arith)
length-sums (x ∷ xs) (y ∷ ys) e = ap suc (length-sums xs ys (omega arith))

length-round : (s : List ℕ) (k w : ℕ) → length (round s k w) ≡ 8
unfolding round
length-round s k w = refl

length-compressed : (h b : List ℕ) → length h ≡ 8 → length (compressed h b) ≡ 8
unfolding compressed
length-compressed h b len =
    let w : List ℕ = schedule (parsed b 16) 48 in
    let last : length (rounds h w 64) ≡ 8 = ap length (rounds-more h w 63) ∙ length-round (rounds h w 63) _ _ in
    length-sums h (rounds h w 64) (len ∙ sym last) ∙ len

length-absorbed : (m : List ℕ) (n : ℕ) → length (absorbed initial m n) ≡ 8
unfolding initial
length-absorbed m zero = ap length (absorbed-none initial m)
length-absorbed m (suc n) = ap length (absorbed-more initial m n) ∙ length-compressed (absorbed initial m n) _ (length-absorbed m n)

pub length-sha_256 : (m : List ℕ) → length (sha_256 m) ≡ 32
unfolding sha_256
length-sha_256 m =
    let n : ℕ = length (padded m) / 64 in
    omega (arith, length-bytes_of (absorbed initial (padded m) n), length-absorbed (padded m) n)

pub length-hmac : (k m : List ℕ) → length (hmac_sha_256 k m) ≡ 32
unfolding hmac_sha_256
length-hmac k m = length-sha_256 _

pub joined-none : (k info : List ℕ) → joined k info 0 ≡ []
unfolding joined
joined-none k info = refl

pub joined-more : (k info : List ℕ) (n : ℕ) → joined k info (suc n) ≡ joined k info n ++ hkdf_t k info (suc n)
unfolding joined
joined-more k info n = refl

pub length-hkdf_t : (k info : List ℕ) (i : ℕ) → length (hkdf_t k info (suc i)) ≡ 32
unfolding hkdf_t
length-hkdf_t k info i = length-hmac k _

pub length-joined : (k info : List ℕ) (n : ℕ) → length (joined k info n) ≡ 32 * n
length-joined k info zero = ap length (joined-none k info)
length-joined k info (suc n) =
    ap length (joined-more k info n)
    ∙ length-append (joined k info n) (hkdf_t k info (suc n)) ∙ omega (arith, length-joined k info n, length-hkdf_t k info n)

pub length-hkdf : (salt input info : List ℕ) (len : ℕ) → length (hkdf_sha_256 salt input info len) ≡ len
unfolding hkdf_sha_256 expanded
length-hkdf salt input info len =
    let key : List ℕ = extracted salt input in
    let n : ℕ = (len + 31) / 32 in
    length-take-le len (joined key info n) (omega (arith, length-joined key info n))

-- each element is a byte
abbrev pub Byte : ℕ → Type 0
Byte b = b < 256

bytes-are : (ws : List ℕ) → All Byte (bytes ws)
unfolding bytes word_bytes
bytes-are [] = tt
bytes-are (w ∷ ws) = All-append Byte (word_bytes w) (bytes ws) (omega arith) (bytes-are ws)

pub sha_256_bytes : (m : List ℕ) → All Byte (sha_256 m)
unfolding sha_256
sha_256_bytes m = bytes-are _

pub hmac_bytes : (k m : List ℕ) → All Byte (hmac_sha_256 k m)
unfolding hmac_sha_256
hmac_bytes k m = sha_256_bytes _

joined_bytes : (k info : List ℕ) (n : ℕ) → All Byte (joined k info n)
unfolding joined hkdf_t
joined_bytes k info zero = tt
joined_bytes k info (suc n) = All-append Byte (joined k info n) (hkdf_t k info (suc n)) (joined_bytes k info n) (hmac_bytes k _)

pub hkdf_bytes : (salt input info : List ℕ) (len : ℕ) → All Byte (hkdf_sha_256 salt input info len)
unfolding hkdf_sha_256 expanded
hkdf_bytes salt input info len = All-take Byte len _ (joined_bytes _ info _)
