-- How far the compression of a block has come: the working variables and the sixteen words of the schedule that come next.
use Rattle.std.specs.Prelude.{◌≡◌, ℕ, List, drop}
use Rattle.digest.specs.Sha256.{rounds, schedule}
use Rattle.digest.specs.declared.block.Work.{Work}

-- t rounds are done on the hash value h and a block of the words m
pub record Stands (h m : List ℕ) (t : ℕ) (x : Work) : Type 0 where
  pub vars : x.vars ≡ rounds h (schedule m 48) t
  pub window : x.window ≡ drop t (schedule m t)
