-- Sixteen single turns make sixteen.
use Rattle.digest.proofs.Schedule.{turns_then}
use Rattle.digest.proofs.block.sixteen_turns.Goals as goal

pub returns : goal.returns
returns c =
    let t = c.args.t in
    let s1 = c.turn-x1.ensures in
    let s2 = turns_then t 1 s1 c.turn-x2.ensures in
    let s3 = turns_then t 2 s2 c.turn-x3.ensures in
    let s4 = turns_then t 3 s3 c.turn-x4.ensures in
    let s5 = turns_then t 4 s4 c.turn-x5.ensures in
    let s6 = turns_then t 5 s5 c.turn-x6.ensures in
    let s7 = turns_then t 6 s6 c.turn-x7.ensures in
    let s8 = turns_then t 7 s7 c.turn-x8.ensures in
    let s9 = turns_then t 8 s8 c.turn-x9.ensures in
    let s10 = turns_then t 9 s9 c.turn-x10.ensures in
    let s11 = turns_then t 10 s10 c.turn-x11.ensures in
    let s12 = turns_then t 11 s11 c.turn-x12.ensures in
    let s13 = turns_then t 12 s12 c.turn-x13.ensures in
    let s14 = turns_then t 13 s13 c.turn-x14.ensures in
    let s15 = turns_then t 14 s14 c.turn-x15.ensures in
    turns_then t 15 s15 c.turn.ensures
