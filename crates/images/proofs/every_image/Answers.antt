-- `every_image` does nothing; what it ensures is proved beside it, each in its own file. Assumes nothing.
use Rattle.images.proofs.Figures.{imaged, judged, earlier}
use Rattle.images.proofs.Trip.{one_image, unused_zero}
use Rattle.images.proofs.GivenTrip.{given_back, one_given, unused_given}
use Rattle.images.proofs.Decided.{decides}
use Rattle.images.proofs.FromImages.{read_back, runs_pass, earlier_pass, from_images}
use Rattle.images.proofs.Earlier.{grows, earlier_read}
use Rattle.images.proofs.every_image.Goals as goal

pub returns : goal.returns
returns c = record {
  imaged = imaged;
  judged = judged;
  earlier = earlier;
  read_back = read_back;
  one_image = one_image;
  unused_zero = unused_zero;
  given_back = given_back;
  one_given = one_given;
  unused_given = unused_given;
  decides = decides;
  runs_pass = runs_pass;
  earlier_pass = earlier_pass;
  from_images = from_images;
  grows = grows;
  earlier_read = earlier_read;
}
