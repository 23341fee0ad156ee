-- What identifies the product, in buffers of a fixed size (the profile's own).
use Rattle.std.specs.Prelude.{◌≡◌, ◌++◌, ◌-◌, List, length, replicate, ℕ}
use Rattle.wc_identity.specs.declared.constants.TheConstants.{DATA_PATH, LEGAL_PART, TOOLCHAIN, VERSION}
use Rattle.wc_identity.specs.declared.identity.Identity.{Identity}

-- the bytes of a text, and zeros after it up to the size
abbrev pub IsText : List ℕ → ℕ → List ℕ → Type 0
IsText text size bytes = bytes ≡ text ++ replicate (size - length text) 0

-- the constants of this version, each in its buffer
abbrev pub IsThisVersion : Identity → Type 0
IsThisVersion identity =
    IsText VERSION.now 16 identity.version × IsText TOOLCHAIN.now 48 identity.toolchain
    × IsText LEGAL_PART.now 65 identity.legal_part × IsText DATA_PATH.now 65 identity.data_path
