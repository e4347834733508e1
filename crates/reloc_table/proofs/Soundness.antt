-- The relocations that were read are sound.
use Rattle.std.proofs.Common.{◌≡◌, ℕ, zero, suc, ◌+◌, ◌<◌, ◌&&◌, not, Bool, true, false, nat_le, nat_lt, List, [], ◌∷◌, length, Result, Ok, Err, refl, subst, inl, inr}
use Rattle.std.specs.List.{AllByRecursion}
use Rattle.std.proofs.lemmas.Bool.{leb-false, cases_Bool}
use Rattle.std.proofs.lemmas.List.Elements.{All-from_recursion}
use Rattle.ds_base.specs.declared.fault.Fault.{Fault}
use Rattle.ds_base.specs.declared.fault.Kind.TheVariants as kinds
use Rattle.ds_base.specs.declared.fault.Part.{Part}
use Rattle.ds_base.specs.Reading.{◌>>=◌, refuse_if}
use Rattle.macho_read.specs.declared.image.Image.{Image}
use Rattle.macho_read.specs.declared.image.Section.{Section}
use Rattle.macho_read.specs.Symbols.{each}
use Rattle.reloc_table.specs.declared.relocation.Reloc.{Reloc}
use Rattle.reloc_table.specs.declared.relocation.RelocationInfo.{RelocationInfo}
use Rattle.reloc_table.specs.Relocation.{info_of, is_plain, reloc_of, reloc_fault}
use Rattle.reloc_table.specs.Table.{all_apart, by_place}
use Rattle.reloc_table.specs.Sound.{IsSound}
use Rattle.reloc_table.proofs.Places.{apart_rise, by_place_all}

bind_ok : {A B : Type 0} (r : Result A Fault) (f : A → Result B Fault) (y : B) → (r >>= f) ≡ Ok y → (x : A) × (r ≡ Ok x) × (f x ≡ Ok y)
bind_ok (Ok x) f y e = (x, refl, e)
bind_ok (Err d) f y e = absurd cc

abbrev done : {A : Type 0} → A → Result A Fault
done x = Ok x

ok_is : {A : Type 0} (x y : A) → done x ≡ done y → x ≡ y
ok_is x y e = cc

-- what holds of each item holds of all that were read
each_all : {A : Type 0} (P : A → Type 0) (read : ℕ → Result A Fault) → ((i : ℕ) (item : A) → read i ≡ Ok item → P item)
    → (count i : ℕ) (items : List A) → each read count i ≡ Ok items → AllByRecursion P items
each_all P read one zero i items e = subst (AllByRecursion P) (ok_is [] items e) tt
each_all {A} P read one (suc count) i items e =
    let first = bind_ok (read i) (λ item. each read count (i + 1) >>= λ others. Ok (item ∷ others)) items e in
    let rest = bind_ok (each read count (i + 1)) (λ (others : List A). done (first.0 ∷ others)) items first.2 in
    subst (AllByRecursion P) (ok_is (first.0 ∷ rest.0) items rest.2) (one i first.0 first.1, each_all P read one count (i + 1) rest.0 rest.1)

-- the symbol that a relocation adds is there
abbrev pub IsThere : Image → Reloc → Type 0
IsThere image r = r.outer ≡ true → r.symbol < length image.symbols

-- it is there where none of the three tests refuses
there_if : (count place symbol : ℕ) (kind passes outer : Bool) (f g h : Fault) (r : Reloc)
    → (refuse_if kind f >>= λ u. refuse_if passes g >>= λ v. refuse_if (outer && nat_le count symbol) h >>= λ w. done (record { place = place; symbol = symbol; outer = outer })) ≡ Ok r
    → r.outer ≡ true → r.symbol < count
there_if count place symbol true passes outer f g h r e is = absurd cc
there_if count place symbol false true outer f g h r e is = absurd cc
there_if count place symbol false false false f g h r e is = absurd (let same : record { place = place; symbol = symbol; outer = false } ≡ r = ok_is _ r e in cc)
there_if count place symbol false false true f g h r e is = elim (cases_Bool (nat_le count symbol)) [
  | inl past ↦ absurd (let refused = rw past at e in cc)
  | inr within ↦ let same : record { place = place; symbol = symbol; outer = true } ≡ r = ok_is _ r (let kept = rw within at e in kept) in subst (λ (x : Reloc). x.symbol < count) same (leb-false count symbol within)
]

there : (image : Image) (section : Section) (part : Part) (i : ℕ) (entry : List ℕ) (r : Reloc) → reloc_of image section part i entry ≡ Ok r → IsThere image r
unfolding reloc_of
there image section part i entry r e =
    let info : RelocationInfo = info_of entry in
    there_if (length image.symbols) info.address info.symbolnum (not (is_plain info)) (nat_lt section.size (info.address + 8)) info.outer
    (reloc_fault part kinds.RelocKind i) (reloc_fault part kinds.RelocPlace i) (reloc_fault part kinds.RelocSymbol i) r e

pub relocs_sound : (image : Image) (section : Section) (part : Part) (entry : ℕ → List ℕ) (count : ℕ) (rs : List Reloc) → each (λ i. reloc_of image section part i (entry i)) count 0 ≡ Ok rs
    → all_apart part (by_place rs) ≡ Ok tt → IsSound image (record { list = by_place rs })
relocs_sound image section part entry count rs are apart =
    let symbols : AllByRecursion (IsThere image) rs = each_all (IsThere image) (λ i. reloc_of image section part i (entry i)) (λ i r. there image section part i (entry i) r) count 0 rs are in
    record { rise = apart_rise part (by_place rs) apart; symbols = All-from_recursion (IsThere image) (by_place rs) (by_place_all (IsThere image) rs symbols) }
