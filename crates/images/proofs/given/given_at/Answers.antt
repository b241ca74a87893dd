-- A signed number is the one that was read.
use Rattle.std.proofs.Common.{sym, ap, ◌∙◌}
use Rattle.std.specs.Int.{w32}
use Rattle.whole.specs.Bits.{got}
use Rattle.places.specs.Places.{get_all}
use Rattle.images.specs.GivenImage.{given_length, given_at}
use Rattle.images.proofs.Buffers.{of_length}
use Rattle.images.proofs.given.given_at.Goals as goal

pub returns : goal.returns
unfolding given_at get_all
returns c =
    (λ i. record {
      zero = ((got {w = w32} _ c.read.type_inv).read ∙ c.read.ensures) i;
      span = ((got {w = w32} _ c.read-2.type_inv).read ∙ c.read-2.ensures) i;
      capacity = ((got {w = w32} _ c.read-3.type_inv).read ∙ c.read-3.ensures) i;
      weight = ((got {w = w32} _ c.read-4.type_inv).read ∙ c.read-4.ensures) i;
      division = ((got {w = w32} _ c.read-5.type_inv).read ∙ c.read-5.ensures) i;
      zeroing = ((got {w = w32} _ c.read-6.type_inv).read ∙ c.read-6.ensures) i;
      tracktime = ((got {w = w32} _ c.read-7.type_inv).read ∙ c.read-7.ensures) i;
      trackwidth = ((got {w = w32} _ c.read-8.type_inv).read ∙ c.read-8.ensures) i;
      allowance = ((got {w = w32} _ c.read-9.type_inv).read ∙ c.read-9.ensures) i;
      stabletime = ((got {w = w32} _ c.read-10.type_inv).read ∙ c.read-10.ensures) i;
      stablewidth = ((got {w = w32} _ c.read-11.type_inv).read ∙ c.read-11.ensures) i;
      mode = ((got {w = w32} _ c.read-12.type_inv).read ∙ c.read-12.ensures) i;
      start = ((got {w = w32} _ c.read-13.type_inv).read ∙ c.read-13.ensures) i;
      large = ((got {w = w32} _ c.read-14.type_inv).read ∙ c.read-14.ensures) i;
      medium = ((got {w = w32} _ c.read-15.type_inv).read ∙ c.read-15.ensures) i;
      small = ((got {w = w32} _ c.read-16.type_inv).read ∙ c.read-16.ensures) i;
      judge = ((got {w = w32} _ c.read-17.type_inv).read ∙ c.read-17.ensures) i;
      flow = ((got {w = w32} _ c.read-18.type_inv).read ∙ c.read-18.ensures) i;
      address = ((got {w = w32} _ c.read-19.type_inv).read ∙ c.read-19.ensures) i;
      board = ((got {w = w32} _ c.read-20.type_inv).read ∙ c.read-20.ensures) i;
      low = ((got {w = w32} _ c.read-21.type_inv).read ∙ c.read-21.ensures) i;
      high = ((got {w = w32} _ c.read-22.type_inv).read ∙ c.read-22.ensures) i;
      dischargestart = ((got {w = w32} _ c.read-23.type_inv).read ∙ c.read-23.ensures) i;
      dischargeend = ((got {w = w32} _ c.read-24.type_inv).read ∙ c.read-24.ensures) i;
      dischargelimit = ((got {w = w32} _ c.read-25.type_inv).read ∙ c.read-25.ensures) i;
    })
    ∙ ap given_at (sym (of_length given_length c.args.s.now c.if-s-ne-GIVEN_LENGTH.false))
