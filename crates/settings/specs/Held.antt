-- Every number given fits 32 bits: what the type of the numbers says, for the proofs of the checks and of what is made of them.
use Rattle.std.specs.Int.{w32}
use Rattle.std.proofs.Common.{SFits}
use Rattle.types.specs.declared.settings.Given.{Given}

pub record Held (g : Given) : Type 0 where
  pub zero : SFits w32 g.zero
  pub span : SFits w32 g.span
  pub capacity : SFits w32 g.capacity
  pub weight : SFits w32 g.weight
  pub division : SFits w32 g.division
  pub zeroing : SFits w32 g.zeroing
  pub tracktime : SFits w32 g.tracktime
  pub trackwidth : SFits w32 g.trackwidth
  pub allowance : SFits w32 g.allowance
  pub stabletime : SFits w32 g.stabletime
  pub stablewidth : SFits w32 g.stablewidth
  pub mode : SFits w32 g.mode
  pub start : SFits w32 g.start
  pub large : SFits w32 g.large
  pub medium : SFits w32 g.medium
  pub small : SFits w32 g.small
  pub judge : SFits w32 g.judge
  pub flow : SFits w32 g.flow
  pub address : SFits w32 g.address
  pub board : SFits w32 g.board
  pub low : SFits w32 g.low
  pub high : SFits w32 g.high
  pub dischargestart : SFits w32 g.dischargestart
  pub dischargeend : SFits w32 g.dischargeend
  pub dischargelimit : SFits w32 g.dischargelimit
