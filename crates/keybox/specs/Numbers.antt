-- Keys that are numbers, for rehearsals and tests: nothing about them is secret.
-- Assumes nothing.
use Rattle.std.specs.Prelude.{ℕ, ◌+◌, ◌*◌, ◌/◌, ◌%◌, cond, List, [], ◌∷◌, ◌++◌, take, replicate, Some, None, Option, ◌==◌, slice_index}
use Rattle.runs.specs.declared.types.Who.{Who}
use Rattle.runs.specs.declared.types.Who.TheVariants.{First, Second}
use Rattle.keybox.specs.Box.{Scheme, Agree}

-- the key that a side drew at its draw d: even for the first side's, odd for the second's
abbrev pub key_of : Who → ℕ → ℕ
key_of who d = 2 * d + elim who [ First ↦ 0 | Second ↦ 1 ]

-- a number in eight bytes, high byte first
abbrev pub eight : ℕ → List ℕ
eight n =
    (n / 72057594037927936 % 256) ∷ (n / 281474976710656 % 256) ∷ (n / 1099511627776 % 256) ∷ (n / 4294967296 % 256)
    ∷ (n / 16777216 % 256) ∷ (n / 65536 % 256) ∷ (n / 256 % 256) ∷ (n % 256) ∷ []

-- the public half: 16 bytes that name the key, by whose it is and by its draw, and zeros
unfoldable pub number_half : ℕ → List ℕ
number_half k = (k % 2) ∷ 0 ∷ 0 ∷ 0 ∷ 0 ∷ 0 ∷ 0 ∷ 0 ∷ [] ++ eight (k / 2) ++ replicate 16 0

-- the names of the two, the first side's before the second's; a half that is not the other side's is not taken
unfoldable pub number_joint : ℕ → List ℕ → Option (List ℕ)
number_joint k half =
    cond (slice_index half 0 + k % 2 == 1)
    (Some (cond (k % 2 == 0) (take 16 (number_half k) ++ take 16 half) (take 16 half ++ take 16 (number_half k))))
    None

abbrev pub numbers : Scheme
numbers = record { half_of = number_half; joint_of = number_joint }

-- the law of two boxes: a key with the other's public half gives what the other gives with its
abbrev pub NumbersAgree : Type 0
NumbersAgree = Agree numbers
