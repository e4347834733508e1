-- What a live entry needs is live.
use Rattle.std.proofs.Common.{◌≡◌, ◌↔◌, ℕ, zero, suc, Bool, true, false, List, [], ◌∷◌, slice_get, slice_index_or, refl, sym, ◌∙◌}
use Rattle.std.specs.Option.{option_map_or}
use Rattle.dwarf_types.specs.LinkedUnits.{Object, is_kept}
use Rattle.dwarf_types.specs.Live.{IsLive, Needs, its_base, its_parent}
use Rattle.dwarf_types.specs.Sound.{IsSound}
use Rattle.linked_laws.specs.Spellable.{IsSpellable}
use Rattle.linked_laws.specs.Kept.{IsWhole}

mark_read : (marks : List Bool) (k : ℕ) → option_map_or (λ b. b) (slice_get marks k) false ≡ slice_index_or marks k false
mark_read [] k = refl
mark_read (m ∷ marks) zero = refl
mark_read (m ∷ marks) (suc k) = mark_read marks k

pub live_closed : (o : Object) → ((k : ℕ) → (slice_index_or o.kept k false ≡ true) ↔ IsLive o.seen.entries k) → (k j : ℕ) → is_kept o k ≡ true → Needs o.seen.entries k j → is_kept o j ≡ true
live_closed o exact k j kept needs =
    let live = (exact k).0 (sym (mark_read o.kept k) ∙ kept) in
    mark_read o.kept j ∙ (exact j).1 (suc live.0, (k, live.1, needs))

-- so the entries that are written keep to each other, where they are the live ones
pub live_whole : (o : Object) → IsSound o.seen → IsSpellable o.seen → ((k : ℕ) → (slice_index_or o.kept k false ≡ true) ↔ IsLive o.seen.entries k) → IsWhole o
live_whole o sound given exact = record {
  sound = sound;
  given = given;
  parents = λ k p e kept at parent. live_closed o exact k p kept (its_parent e at parent);
  bases = λ k j e kept at there. live_closed o exact k j kept (its_base e at there);
}
