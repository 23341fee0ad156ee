-- A number that a path has in a frame is no other place's.
use Rattle.wc_model.proofs.Common.{◌≡◌, Option, Some, None, option_map, sym, ap, IfSome, option_and_then}
use Rattle.wc_model.specs.Definitions.{frame_of, location_of, number_of_path, place_number, Scope, Location}
use Rattle.wc_model.specs.declared.place.Path.{Path as WrittenPath}
use Rattle.wc_model.specs.declared.place.Place.{Place}
use Rattle.wc_laws_language.proofs.FramePlaces.{one_place}

pub own_number : (scope : Scope) (path : WrittenPath) (other : Location) (o : Option Place) → option_map (λ (p : Place). p.0) o ≡ number_of_path scope path → IfSome o (λ p. place_number (frame_of scope) other ≡ Some p.0 → location_of path ≡ Some other)
own_number scope path other None e = tt
own_number scope path other (Some p) e = λ f. step (location_of path) e f
  where
    step : (found : Option Location) → Some p.0 ≡ option_and_then (place_number (frame_of scope)) found → place_number (frame_of scope) other ≡ Some p.0 → found ≡ Some other
    step None h f = cc
    step (Some location) h f = ap Some (one_place (frame_of scope) location other p.0 (sym h) f)
