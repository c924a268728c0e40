-- ChaCha20 (RFC 8439, sections 2.1 to 2.4), on lists of words of 32 bits and of bytes.
use Rattle.std.specs.Prelude.{ℕ, zero, suc, ◌+◌, ◌-◌, ◌*◌, ◌/◌, ◌%◌, ◌^◌, List, [], ◌∷◌, ◌++◌, length, set, bit_or, bit_xor, slice_index, slice_set}
use Rattle.std.specs.Simd.Lanes.{zip2}
use Rattle.std.specs.List.{flat_map}

-- a sum of words, which wraps
abbrev pub plus : ℕ → ℕ → ℕ
plus x y = (x + y) % 2 ^ 32

-- x <<< n: the bits of a word rolled n places to the left
abbrev pub roll : ℕ → ℕ → ℕ
roll x n = bit_or ((x * 2 ^ (n % 32)) % 2 ^ 32) (x / 2 ^ ((32 - n % 32) % 32))

-- section 2.1, one line of the quarter round on the words at a, b and d: a += b; d ^= a; d <<<= n
unfoldable pub line : List ℕ → ℕ → ℕ → ℕ → ℕ → List ℕ
line s a b d n =
    let t = set s a (plus (slice_index s a) (slice_index s b)) in
    slice_set t d (roll (bit_xor (slice_index t d) (slice_index t a)) n)

-- sections 2.1 and 2.2, QUARTERROUND(a, b, c, d)
abbrev pub quarter_round : List ℕ → ℕ → ℕ → ℕ → ℕ → List ℕ
quarter_round s a b c d = line (line (line (line s a b d 16) c d b 12) a b d 8) c d b 7

-- section 2.3, the rounds on the columns and then those on the diagonals
abbrev pub column_rounds : List ℕ → List ℕ
column_rounds s =
    quarter_round (quarter_round (quarter_round (quarter_round s 0 4 8 12) 1 5 9 13) 2 6 10 14) 3 7 11 15

abbrev pub diagonal_rounds : List ℕ → List ℕ
diagonal_rounds s =
    quarter_round (quarter_round (quarter_round (quarter_round s 0 5 10 15) 1 6 11 12) 2 7 8 13) 3 4 9 14

unfoldable pub double_rounds : ℕ → List ℕ → List ℕ
double_rounds zero s = s
double_rounds (suc n) s = diagonal_rounds (column_rounds (double_rounds n s))

-- section 2.3, the word that stands at a place of a list of bytes, its low byte first
unfoldable pub word : List ℕ → ℕ → ℕ
word bytes at =
    slice_index bytes at + slice_index bytes (at + 1) * 256 + slice_index bytes (at + 2) * 65536 + slice_index bytes (at + 3) * 16777216

-- section 2.3, the state: "expand 32-byte k", the key, the counter and the nonce
abbrev pub initial : List ℕ → List ℕ → ℕ → List ℕ
initial key nonce counter =
    0x61707865 ∷ 0x3320646e ∷ 0x79622d32 ∷ 0x6b206574
    ∷ word key 0 ∷ word key 4 ∷ word key 8 ∷ word key 12
    ∷ word key 16 ∷ word key 20 ∷ word key 24 ∷ word key 28
    ∷ counter ∷ word nonce 0 ∷ word nonce 4 ∷ word nonce 8 ∷ []

-- a word's four bytes, the low one first
abbrev pub bytes_of : ℕ → List ℕ
bytes_of x = (x % 256) ∷ (x / 256 % 256) ∷ (x / 65536 % 256) ∷ (x / 16777216 % 256) ∷ []

unfoldable pub serialized : List ℕ → List ℕ
serialized words = flat_map bytes_of words

-- section 2.3, the block function: twenty rounds, the state added, its words as bytes
abbrev pub block_of : List ℕ → List ℕ
block_of s = serialized (zip2 plus (double_rounds 10 s) s)

abbrev pub block : List ℕ → List ℕ → ℕ → List ℕ
block key nonce counter = block_of (initial key nonce counter)

-- section 2.4, the state of the next block: the counter goes on by one
abbrev pub counted : List ℕ → List ℕ
counted s = slice_set s 12 (plus (slice_index s 12) 1)

-- section 2.4, the first n blocks of the key stream
unfoldable pub key_stream : List ℕ → List ℕ → ℕ → ℕ → List ℕ
key_stream key nonce counter zero = []
key_stream key nonce counter (suc n) = key_stream key nonce counter n ++ block key nonce (counter + n)

-- how many blocks so many bytes take
abbrev pub blocks : ℕ → ℕ
blocks n = (n + 63) / 64

-- section 2.4: each byte of the text, exclusive or the stream's byte at its place
unfoldable pub chacha20 : List ℕ → List ℕ → ℕ → List ℕ → List ℕ
chacha20 key nonce counter text = zip2 bit_xor text (key_stream key nonce counter (blocks (length text)))
