-- The rounds 48 to 63, each by its word of the window.
use Rattle.std.proofs.Common.{arith}
use Rattle.digest.proofs.Schedule.{last_more}
use Rattle.digest.proofs.block.last_rounds.Goals as goal

pub returns : goal.returns
returns c = λ h m len st.
    let more = last_more h m c.args.x len st in
    let s0 = more 0 (omega arith) _ _ _ st.vars c.constant.ensures c.one_round-s0.ensures in
    let s1 = more 1 (omega arith) _ _ _ s0 c.constant-2.ensures c.one_round-s1.ensures in
    let s2 = more 2 (omega arith) _ _ _ s1 c.constant-3.ensures c.one_round-s2.ensures in
    let s3 = more 3 (omega arith) _ _ _ s2 c.constant-4.ensures c.one_round-s3.ensures in
    let s4 = more 4 (omega arith) _ _ _ s3 c.constant-5.ensures c.one_round-s4.ensures in
    let s5 = more 5 (omega arith) _ _ _ s4 c.constant-6.ensures c.one_round-s5.ensures in
    let s6 = more 6 (omega arith) _ _ _ s5 c.constant-7.ensures c.one_round-s6.ensures in
    let s7 = more 7 (omega arith) _ _ _ s6 c.constant-8.ensures c.one_round-s7.ensures in
    let s8 = more 8 (omega arith) _ _ _ s7 c.constant-9.ensures c.one_round-s8.ensures in
    let s9 = more 9 (omega arith) _ _ _ s8 c.constant-10.ensures c.one_round-s9.ensures in
    let s10 = more 10 (omega arith) _ _ _ s9 c.constant-11.ensures c.one_round-s10.ensures in
    let s11 = more 11 (omega arith) _ _ _ s10 c.constant-12.ensures c.one_round-s11.ensures in
    let s12 = more 12 (omega arith) _ _ _ s11 c.constant-13.ensures c.one_round-s12.ensures in
    let s13 = more 13 (omega arith) _ _ _ s12 c.constant-14.ensures c.one_round-s13.ensures in
    let s14 = more 14 (omega arith) _ _ _ s13 c.constant-15.ensures c.one_round-s14.ensures in
    more 15 (omega arith) _ _ _ s14 c.constant-16.ensures c.one_round.ensures
