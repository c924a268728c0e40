-- Our functions of the outside keep their laws: lengths of the digests, the stream undoing itself, and the boxes' own law.
use Rattle.std.proofs.Common.{◌≡◌, ℕ, ◌+◌, ◌*◌, [], replicate, ap, ◌∙◌, arith}
use Rattle.digest.proofs.Lengths.{length-hmac, length-hkdf}
use Rattle.seal.proofs.Streams.{stream_twice}
use Rattle.session.proofs.Written.{length-covered, length-tag}
use Rattle.session.specs.Lawful.{OursLawful}

pub ours-lawful : OursLawful
ours-lawful = λ scheme boxes. record {
  link_length = λ root joint. length-hkdf root joint [] 64;
  key_length = λ chain. length-hmac chain _;
  next_length = λ chain. length-hmac chain _;
  cover_length = λ key text. length-covered key text;
  cover_twice = λ key text. stream_twice key (replicate 12 0) 1 text;
  tag_length = λ key bytes. length-tag key bytes;
  half_length = λ d. boxes.half _;
  meet = λ m n.
      let z : 2 * m + 0 ≡ 2 * m = omega arith in
      record {
        secret = (boxes.answers m n).0;
        ours = ap (λ (k : ℕ). scheme.joint_of k (scheme.half_of (2 * n + 1))) z ∙ (boxes.answers m n).1;
        theirs = ap (λ (k : ℕ). scheme.joint_of (2 * n + 1) (scheme.half_of k)) z ∙ (boxes.agree (2 * n + 1) (2 * m) ∙ (boxes.answers m n).1);
      };
}
