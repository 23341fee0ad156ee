use Rattle.wc_names.proofs.carry.+kept_number.Given as goal

abbrev pub decreases-kept_number : goal.decreases-kept_number
decreases-kept_number l = l.unit
