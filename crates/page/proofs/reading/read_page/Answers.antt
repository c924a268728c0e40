-- Read exactly if the bytes pass all tests.
use Rattle.std.proofs.Common.{◌<◌, refl}
use Rattle.std.proofs.ByRecursion.{All-from_get_or}
use Rattle.std.proofs.lemmas.Bool.Decides.{not_from_Decides}
use Rattle.page.proofs.Readings.{unread, not-whole, not-sound, page_read}
use Rattle.page.proofs.reading.read_page.Goals as goal

pub returns-in_err-page : goal.returns-in_err-page
returns-in_err-page c = unread c.args.who c.args.bytes.now c.args.slots.now c.from_residual.result _ c.from_residual.ensures.1 (not-whole c.args.who c.args.bytes.now c.in_err-page.ensures)

pub returns-then-not-is_sound : goal.returns-then-not-is_sound
returns-then-not-is_sound c = record {
  page = not-sound c.args.who c.args.bytes.now c.in_ok-page.page c.in_ok-page.ensures.0 c.session-session.result c.session-session.ensures
      (not_from_Decides c.is_sound.result c.is_sound.ensures c.if-not-is_sound.true);
  slots = refl;
}

pub returns : goal.returns
returns c =
    page_read c.args.who c.args.bytes.now c.in_ok-page.page c.in_ok-page.ensures.0 c.session-session.result c.session-session.ensures
    c.restore.new.slots (All-from_get_or (λ x. x < 256) c.args.bytes.now 0 (λ i h. (c.type_inv.bytes i).fits)) c.in_ok-page.ensures.1 (c.is_sound.ensures.0 c.if-not-is_sound.false) c.restore.ensures.keys c.restore.ensures.rest
