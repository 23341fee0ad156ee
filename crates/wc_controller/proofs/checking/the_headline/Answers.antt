use Rattle.wc_controller.proofs.LoadedTexts.{headline_holds}
use Rattle.wc_controller.proofs.checking.the_headline.Goals as goal

pub returns : goal.returns
returns c = headline_holds
