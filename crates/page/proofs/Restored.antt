-- Slots that are filled from a page.
use Rattle.std.proofs.Common.{◌≡◌, ℕ, ◌+◌, ◌*◌, ◌<◌, List, ◌++◌, map, length, take, drop, set, ap, ◌∙◌}
use borrow.Rule.Slice.PartMut.{put_mid}
use Rattle.std.proofs.lemmas.List.{take_at, take_more_set, map_push}
use Rattle.seal.specs.declared.keys.MessageKey.{MessageKey}
use Rattle.session.specs.Views.{key_in}
use Rattle.page.specs.Parts.{keys_in}
use Rattle.page.proofs.Parsed.{keys-more}

-- one more key
pub filled_more : (slots : List MessageKey) (b : List ℕ) (k : MessageKey) (i : ℕ) → i < length slots → k.0 ≡ take 32 (drop (40 * i + 8) b) → map key_in (take i slots) ≡ keys_in i b →
    map key_in (take (i + 1) (set slots i k)) ≡ keys_in (i + 1) b
filled_more slots b k i h is so_far =
    let more = keys-more i b in
    let put = take_more_set slots i k h in
    let pushed = map_push key_in (take i slots) k in
    cc

-- the first slots filled, whatever is put behind them
pub restored_front : (was front rest : List MessageKey) (n m : ℕ) → length front ≡ n → take n (put_mid n m (front ++ drop n was) rest) ≡ front
restored_front was front rest n m long =
    let first : take n (front ++ drop n was) ≡ front = take_at front (drop n was) n long in
    take_at (take n (front ++ drop n was)) (rest ++ drop m (drop n (front ++ drop n was))) n (ap length first ∙ long) ∙ first
