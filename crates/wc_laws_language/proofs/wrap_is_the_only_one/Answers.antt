use Rattle.std.proofs.Common.{sym, subst}
use Rattle.wc_laws_language.proofs.Wrapping.{IsWrapped-unique, wrap_is_wrapped}
use Rattle.wc_model.specs.Language.Values.{IsWrapped, wrap}
use Rattle.wc_laws_language.proofs.wrap_is_the_only_one.Goals as goal

pub returns : goal.returns
returns c = λ n w. (λ h. IsWrapped-unique n w (wrap n) h (wrap_is_wrapped n), λ e. subst (IsWrapped n) (sym e) (wrap_is_wrapped n))
