-- How long the stream's lists are.
use Rattle.std.proofs.Common.{◌≡◌, ℕ, zero, suc, ◌+◌, ◌*◌, ◌≤◌, List, length, refl, ap, ◌∙◌, arith, length-append, length-set}
use lib.Bits.{bit_xor}
use lib.Lanes.{zip2}
use Rattle.seal.specs.ChaCha20.{plus, line, quarter_round, double_rounds, initial, serialized, block, key_stream, blocks, chacha20}
use Rattle.seal.proofs.Serials.{length-joined}
use Rattle.seal.proofs.Zips.{length_zip}

length-line : (s : List ℕ) (a b d n : ℕ) → length (line s a b d n) ≡ length s
unfolding line
length-line s a b d n = simp length-set

length-quarter : (s : List ℕ) (a b c d : ℕ) → length (quarter_round s a b c d) ≡ length s
length-quarter s a b c d = simp length-line

length-double_rounds : (n : ℕ) (s : List ℕ) → length (double_rounds n s) ≡ length s
unfolding double_rounds
length-double_rounds zero s = refl
length-double_rounds (suc n) s = simp length-quarter (length-double_rounds n s)

length-block : (key nonce : List ℕ) (counter : ℕ) → length (block key nonce counter) ≡ 64
unfolding serialized
length-block key nonce counter =
    let s = initial key nonce counter in
    let mixed = length-double_rounds 10 s in
    let sum = length_zip plus (double_rounds 10 s) s (omega arith) in
    length-joined (zip2 plus (double_rounds 10 s) s) ∙ ap (λ n. 4 * n) (sum ∙ mixed)

pub length-stream : (key nonce : List ℕ) (counter i : ℕ) → length (key_stream key nonce counter i) ≡ 64 * i
unfolding key_stream
length-stream key nonce counter zero = refl
length-stream key nonce counter (suc i) =
    let before = length-stream key nonce counter i in
    let one = length-block key nonce (counter + i) in
    simp length-append (omega arith)

-- there are as many blocks as the text needs
pub stream_covers : (key nonce : List ℕ) (counter : ℕ) (text : List ℕ) → length text ≤ length (key_stream key nonce counter (blocks (length text)))
stream_covers key nonce counter text = omega (arith, length-stream key nonce counter (blocks (length text)))

pub length-chacha20 : (key nonce : List ℕ) (counter : ℕ) (text : List ℕ) → length (chacha20 key nonce counter text) ≡ length text
unfolding chacha20
length-chacha20 key nonce counter text =
    length_zip bit_xor text (key_stream key nonce counter (blocks (length text))) (stream_covers key nonce counter text)
