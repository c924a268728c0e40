-- The functions of the outside as we have them: the digests, the stream and the tag of the standards, and a key box.
-- Assumes nothing.
use Rattle.std.specs.Prelude.{ℕ, ◌/◌, ◌%◌, cond, take, ◌==◌}
use Rattle.digest.specs.Hmac.{hmac_sha_256}
use Rattle.seal.specs.Sealing.{covered, tag_key}
use Rattle.chain.specs.Bytes as links
use Rattle.runs.specs.declared.types.Who.TheVariants.{First, Second}
use Rattle.keybox.specs.Box.{Scheme}
use Rattle.keybox.specs.Numbers.{key_of}
use Rattle.exchange.specs.Outside.{Draw, Outside}

-- the number of a key by its draw, and back: even for the first side's, odd for the second's
abbrev pub number_of : Draw → ℕ
number_of d = key_of d.who d.nth

abbrev pub draw_of : ℕ → Draw
draw_of key = record { who = cond (key % 2 == 0) First Second; nth = key / 2 }

-- links by HKDF, chains by HMAC; a text under ChaCha20; the tag, the first 16 bytes of HMAC; halves and joint secrets by the scheme of the boxes, by the keys' numbers
abbrev pub ours : Scheme → Outside
ours scheme = record {
  link_bytes = λ root joint. links.mix_bytes root joint;
  key_bytes = λ chain. links.key_bytes chain;
  next_bytes = λ chain. links.next_bytes chain;
  cover = λ key text. covered key text;
  tag = λ key bytes. take 16 (hmac_sha_256 (tag_key key) bytes);
  half = λ draw. scheme.half_of (number_of draw);
  joint = λ draw half. scheme.joint_of (number_of draw) half;
}

-- whatever the box
abbrev pub AnyBox : (Outside → Type 0) → Type 0
AnyBox P = (scheme : Scheme) → P (ours scheme)
