-- The text of a bundle's Info.plist, a property list in XML.
use Rattle.std.specs.Prelude.{ℕ, ◌==◌, List, [], ◌∷◌, ◌++◌, codes, if◌then◌else◌}
use Rattle.std.specs.List.{flat_map}

-- a byte of a text, the three with a meaning in XML as entities
abbrev pub escaped : ℕ → List ℕ
escaped b = if b == 0x26 then codes "&amp;" else if b == 0x3c then codes "&lt;" else if b == 0x3e then codes "&gt;" else b ∷ []

-- lines, each ended by a newline
abbrev pub lines : List (List ℕ) → List ℕ
lines texts = flat_map (λ text. text ++ 0x0a ∷ []) texts

-- the lines before the name's
abbrev pub lines_before : List (List ℕ)
lines_before =
    codes "<?xml version=\"1.0\" encoding=\"UTF-8\"?>"
    ∷ codes "<!DOCTYPE plist PUBLIC \"-//Apple Computer//DTD PLIST 1.0//EN\" \"http://www.apple.com/DTDs/PropertyList-1.0.dtd\">"
    ∷ codes "<plist version=\"1.0\">"
    ∷ codes "\t<dict>"
    ∷ codes "\t\t<key>CFBundleDevelopmentRegion</key>"
    ∷ codes "\t\t<string>English</string>"
    ∷ codes "\t\t<key>CFBundleIdentifier</key>" ∷ []

-- the lines behind it
abbrev pub lines_behind : List (List ℕ)
lines_behind =
    codes "\t\t<key>CFBundleInfoDictionaryVersion</key>"
    ∷ codes "\t\t<string>6.0</string>"
    ∷ codes "\t\t<key>CFBundlePackageType</key>"
    ∷ codes "\t\t<string>dSYM</string>"
    ∷ codes "\t\t<key>CFBundleSignature</key>"
    ∷ codes "\t\t<string>????</string>"
    ∷ codes "\t\t<key>CFBundleShortVersionString</key>"
    ∷ codes "\t\t<string>1.0</string>"
    ∷ codes "\t\t<key>CFBundleVersion</key>"
    ∷ codes "\t\t<string>1</string>"
    ∷ codes "\t</dict>"
    ∷ codes "</plist>" ∷ []

-- the text of the bundle of a program's name
abbrev pub plist_bytes : List ℕ → List ℕ
plist_bytes name = lines lines_before ++ (codes "\t\t<string>com.apple.xcode.dsym." ++ (flat_map escaped name ++ (codes "</string>\n" ++ lines lines_behind)))
