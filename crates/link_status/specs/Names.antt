-- The names of a bundle's files.
use Rattle.std.specs.Prelude.{ℕ, Bool, ◌==◌, List, [], ◌∷◌, ◌++◌, codes, if◌then◌else◌}
use Rattle.std.specs.List.{list_any}

-- a slash
abbrev pub is_slash : ℕ → Bool
is_slash b = b == 0x2f

-- the part of a path behind its last slash, or all of it
abbrev pub last_part : List ℕ → List ℕ
last_part [] = []
last_part (b ∷ bs) = if list_any is_slash bs then last_part bs else if is_slash b then bs else b ∷ bs

-- the property list in a bundle
abbrev pub plist_name : List ℕ → List ℕ
plist_name out = out ++ codes "/Contents/Info.plist"

-- the image in the bundle of a program
abbrev pub image_name : List ℕ → List ℕ → List ℕ
image_name out exe = out ++ (codes "/Contents/Resources/DWARF/" ++ last_part exe)
