use Rattle.wc_laws_instrument.proofs.PlateTable.{accepted_is_plate}
use Rattle.wc_laws_instrument.proofs.laws.accepted_tables_are_plates.Goals as goal

pub returns : goal.returns
returns c = accepted_is_plate
