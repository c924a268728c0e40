-- All before the digest, and the digest of it.
use Rattle.std.proofs.Common.{ℕ, List, ◌++◌, ap, ◌∙◌, arith}
use Rattle.session.specs.Views.{held_of}
use Rattle.page.specs.Layout.{body_bytes, page_bytes}
use Rattle.page.proofs.Puts.{front-size, page_front, page_rest, digest-of}
use Rattle.page.proofs.writing.write_page.Goals as goal

pub returns : goal.returns
unfolding page_bytes
returns c =
    let s = c.args.session.now in
    let slots = c.args.slots.now in
    let few = s.side.few in
    let body = body_bytes (held_of s slots) in
    let end = c.put_body-end.result in
    let so_far = c.put_body-end.ensures.bytes in
    let count = c.put_body-end.ensures.size in
    let size = front-size c.args.out.now c.put_body-end.new.out body end so_far (omega arith) (omega arith) in
    let digest = digest-of c.args.out.now c.put_body-end.new.out body end c.sha256-digest.result size so_far c.sha256-digest.ensures in
    record {
      page = page_front c.args.out.now c.put_body-end.new.out _ body _ end size (omega arith) so_far c.put.ensures ∙ ap (λ (d : List ℕ). body ++ d) digest;
      rest = page_rest c.args.out.now c.put_body-end.new.out _ body _ end size (omega arith) so_far c.put.ensures;
      size = omega arith;
    }
