-- What a side holds as bytes, and what it should hold: the bytes of what the model says that it holds.
-- Assumes nothing.
use Rattle.std.specs.Prelude.{ℕ, suc, ◌%◌, cond, List, [], ◌∷◌, map, take, drop, replicate, Some, None, Option, ◌==◌}
use Rattle.ratchet.specs.declared.types.Mark.{Mark}
use Rattle.ratchet.specs.State.{State}
use Rattle.runs.specs.declared.types.Who.{Who}
use Rattle.runs.specs.declared.types.Who.TheVariants.{First, Second}
use Rattle.chain.specs.Secret.{Secret, shared, own, joint, mix, root, chain, next, key, root_of}
use Rattle.runs.specs.Stock.{key_of}
use Rattle.runs.specs.Stock.{sending as sendingOf}
use Rattle.runs.specs.Stock.{taking as takingOf}
use Rattle.exchange.specs.Outside.{Draw, Outside}

-- The bookkeeping, and beside it the root, the chain that it sends on and the one that it takes on (32 zeros where there is none),
-- the public half of its last key, and the keys put aside, in step with the marks of the bookkeeping
pub record Held : Type 0 where
  pub state : State
  pub root : List ℕ
  pub sending : List ℕ
  pub taking : List ℕ
  pub half : List ℕ
  pub keys : List (List ℕ)

abbrev pub blank : List ℕ
blank = replicate 32 0

-- the parts of a link's 64 bytes: the next root, and the beginning of its chain
abbrev pub root_part : (link : List ℕ) → List ℕ
root_part link = take 32 link

abbrev pub chain_part : (link : List ℕ) → List ℕ
chain_part link = drop 32 link

-- ### The bytes of a recipe

-- what the two had from the start, and for each key's number its how-manieth draw it was of the side that drew it
pub record Ground : Type 0 where
  pub secret : List ℕ
  pub draws : ℕ → ℕ

-- the first side draws the odd keys, the second the even ones
abbrev pub drawer : (key : ℕ) → Who
drawer n = cond (n % 2 == 1) First Second

abbrev pub draw_of : Ground → (key : ℕ) → Draw
draw_of g n = record { who = drawer n; nth = g.draws n }

abbrev pub or_none : Option (List ℕ) → List ℕ
or_none None = []
or_none (Some bytes) = bytes

-- a secret half stays in its box, and is never held as bytes; a joint secret is what the box of the lower key answers
unfoldable pub bytes_of : Outside → Ground → Secret → List ℕ
bytes_of o g shared = g.secret
bytes_of o g (own n) = []
bytes_of o g (joint n) = or_none (o.joint (draw_of g n) (o.half (draw_of g (suc n))))
bytes_of o g (mix r j) = o.link_bytes (bytes_of o g r) (bytes_of o g j)
bytes_of o g (root x) = root_part (bytes_of o g x)
bytes_of o g (chain x) = chain_part (bytes_of o g x)
bytes_of o g (next c) = o.next_bytes (bytes_of o g c)
bytes_of o g (key c) = o.key_bytes (bytes_of o g c)

-- ### What a side should hold

-- the bytes of the chain that there is, or zeros
abbrev pub chain_bytes : Outside → Ground → List Secret → List ℕ
chain_bytes o g [] = blank
chain_bytes o g (c ∷ cs) = bytes_of o g c

abbrev pub key_bytes_of : Outside → Ground → Mark → List ℕ
key_bytes_of o g m = bytes_of o g (key_of m)

-- root, chains and keys put aside as the model's stock has them
abbrev pub hold : Outside → Ground → State → Held
hold o g s = record {
  state = s;
  root = bytes_of o g (root_of s.drawn);
  sending = chain_bytes o g (sendingOf s.drawn s.sent);
  taking = chain_bytes o g (takingOf s.drawn s.taken);
  half = o.half (draw_of g s.drawn);
  keys = map (key_bytes_of o g) s.skipped;
}
