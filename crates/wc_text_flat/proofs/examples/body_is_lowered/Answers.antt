use Rattle.std.proofs.Common.{[], ◌∷◌, refl, pos}
use Rattle.wc_text_flat.proofs.examples.body_is_lowered.Goals as goal
use Rattle.wc_text_flat.specs.{place, Number, At}
use Rattle.wc_model.specs.declared.block.StandardBlock.TheVariants.{Ton}
use Rattle.wc_model.specs.declared.code.Code.TheVariants.{ArgumentPlace, ArgumentNumber, Standard}

pub returns : goal.returns
returns c = record {
  own = _;
  others = _;
  whole = refl;
  step = (At (place 45), refl, refl);
  rest = record {
    own = _;
    others = _;
    whole = refl;
    step = (2, refl, refl);
    rest = record {
      opening = _;
      inner = [];
      others = _;
      whole = refl;
      opens = (Number (pos 1), refl, refl);
      inside = refl;
      rest = record {
        own = _;
        others = _;
        whole = refl;
        step = (place 45, refl, refl);
        rest = record {
          own = _;
          others = [];
          whole = refl;
          step = record {
            assigned = ArgumentPlace (place 45) (place 46) ∷ ArgumentNumber (place 47) (pos 5) ∷ [];
            body = Standard Ton (place 46);
            given = ArgumentPlace (place 48) (place 45) ∷ [];
            inputs = ((At (place 45), place 46, refl, refl, refl), ((Number (pos 5), place 47, refl, refl, refl), tt));
            called = (place 46, refl, refl);
            outputs = ((At (place 48), place 45, refl, refl, refl), tt);
            is = refl;
          };
          rest = refl;
        };
      };
    };
  };
}
