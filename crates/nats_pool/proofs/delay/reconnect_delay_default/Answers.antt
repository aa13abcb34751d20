use Rattle.std.proofs.Common.{◌^◌, ◌-◌, ◌≤◌, arith}
use Rattle.std.proofs.Math.Pow.{pow_mono}
use Rattle.nats_pool.proofs.delay.reconnect_delay_default.Goals as goal

pub returns-in-2-to-12 : goal.returns-in-2-to-12
returns-in-2-to-12 c =
    let n : c.args.attempts - 1 ≤ 11 = omega arith in
    let h : 2 ^ (c.args.attempts - 1) ≤ 2 ^ 11 = pow_mono {i = c.args.attempts - 1} {j = 11} n in grind (arith, h)

pub returns-in_default : goal.returns-in_default
returns-in_default c =
    let n : 12 ≤ c.args.attempts - 1 = omega arith in
    let h : 2 ^ 12 ≤ 2 ^ (c.args.attempts - 1) = pow_mono {i = 12} {j = c.args.attempts - 1} n in grind (arith, h)
