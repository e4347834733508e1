-- Entries that are prepared and appended stretch by stretch.
use Rattle.std.proofs.Common.{◌≡◌, ℕ, ◌+◌, ◌-◌, ◌<◌, ◌≤◌, List, Result, Ok, Err, OnOk, [], ◌∷◌, ◌++◌, length, map, take, drop, fold, get_or, None, refl, sym, ap, subst, ◌∙◌, arith, append-nil, length-append}
use Rattle.std.specs.List.{enumerate_from}
use Rattle.std.proofs.lemmas.List.{drop-drop, drop-map, drop_all, drop_more, get_or-map, length-drop, length-map, map-append, take-map}
use Rattle.std.proofs.lemmas.List.Concat.{flat_map-append}
use Rattle.std.proofs.Math.Seq.{drop-append_seam, take-append_seam}
use Rattle.dwarf_types.specs.declared.graph.Node.{Node}
use Rattle.dwarf_types.specs.declared.graph.OutAttr.{OutAttr}
use Rattle.dwarf_types.specs.declared.graph.OutUnit.{OutUnit}
use Rattle.dwarf_types.specs.Abbreviations.{declaration_of}
use Rattle.abbrev_write.specs.Table.{with_declaration}
use Rattle.dwarf_types.specs.Entries.{OutEntry, entries_of, unit_len}
use Rattle.unit_source.specs.declared.given.OutAttrRef.{OutAttrRef}
use Rattle.unit_source.specs.declared.source.NodeHead.{NodeHead}
use Rattle.unit_source.specs.Given.{attr_given, node_given}
use Rattle.unit_draft.specs.declared.drafting.Drafting.{Drafting}
use Rattle.unit_draft.specs.declared.entries.Appender.{Appender}
use Rattle.unit_draft.specs.declared.error.DraftError.{DraftError}
use Rattle.unit_draft.specs.declared.preparer.Preparer.{Preparer}
use Rattle.unit_draft.specs.declared.stretch.Prepared.{Prepared}
use Rattle.unit_draft.specs.declared.stretch.Stretch.{Stretch}
use Rattle.unit_draft.specs.Appends.{AppendsEntries, AppendsEntry, attrs_of, len_of, places_from}
use Rattle.unit_draft.specs.Long.{RefusesLong}
use Rattle.unit_draft.specs.Stretches.{AppendsStretch, GoesOn, IsReady, IsStretch, PreparesStretch, prepared}
use Rattle.unit_draft.specs.Whole.{IsBegun, IsEntered}
use Rattle.unit_draft.proofs.Appending.{appends_none, entries_cons}
use Rattle.unit_draft.proofs.Entering.{entry_by, left_more, places_more}
use Rattle.unit_draft.proofs.Entire.{all_len, refuses_on}
use Rattle.unit_draft.proofs.Placing.{length_entries}

-- ---- a stretch

-- one more entry, last
pub stretch_more : (es : List OutEntry) (e : OutEntry) (s t : Stretch) (attrs : List OutAttrRef) (node : Prepared) → IsStretch es s → map attr_given attrs ≡ e.node.attrs → node ≡ prepared e
    → t.attrs.items ≡ s.attrs.items ++ attrs → t.nodes.items ≡ s.nodes.items ++ node ∷ [] → IsStretch (es ++ e ∷ []) t
stretch_more es e s t attrs node is given known added pushed = record {
  attrs = ap (map attr_given) added ∙ map-append attr_given s.attrs.items attrs ∙ ap (λ (xs : List OutAttr). map attr_given s.attrs.items ++ xs) given
      ∙ ap (λ (xs : List OutAttr). xs ++ e.node.attrs) is.attrs ∙ ap (λ (xs : List OutAttr). attrs_of es ++ xs) (sym (append-nil e.node.attrs)) ∙ sym (flat_map-append (λ (o : OutEntry). o.node.attrs) es (e ∷ []));
  nodes = pushed ∙ ap (λ (ns : List Prepared). ns ++ node ∷ []) is.nodes ∙ ap (λ (n : Prepared). map prepared es ++ n ∷ []) known ∙ sym (map-append prepared es (e ∷ []));
}

-- the entry of a node of a stretch, and those behind it
module _ (es : List OutEntry) (s : Stretch) (is : IsStretch es s) (nodes : List Prepared) (same : nodes ≡ s.nodes.items) (j : ℕ) (lt : j < length nodes) where
  inside : j < length es
  inside = omega (arith, lt, ap length same, ap length is.nodes, length-map es prepared)

  abbrev pub entry_at : OutEntry
  entry_at = get_or es j (record { code = 0; node = record { parent = None; tag = 0; attrs = [] }; ended = 0 })

  pub known_at : (d : Prepared) → get_or nodes j d ≡ prepared entry_at
  known_at d = ap (λ (ns : List Prepared). get_or ns j d) (same ∙ is.nodes) ∙ get_or-map prepared es j _ d inside

  pub entries_left : drop j es ≡ entry_at ∷ drop (j + 1) es
  entries_left = drop_more es j _ inside

-- the attributes of an entry stand in front, and those of the others behind them
module _ (e : OutEntry) (p : Prepared) (known : p ≡ prepared e) (es : List OutEntry) (all : List OutAttrRef) (at : ℕ) (is : map attr_given (drop at all) ≡ attrs_of (e ∷ es)) where
  count : p.attrs ≡ length e.node.attrs
  count = ap (λ (q : Prepared). q.attrs) known

  first_attrs : map attr_given (take p.attrs (drop at all)) ≡ e.node.attrs
  first_attrs =
      sym (take-map attr_given p.attrs (drop at all)) ∙ ap (λ (n : ℕ). take n (map attr_given (drop at all))) count ∙ ap (take (length e.node.attrs)) is
      ∙ take-append_seam e.node.attrs (attrs_of es)

  pub others_behind : map attr_given (drop (at + p.attrs) all) ≡ attrs_of es
  others_behind =
      ap (map attr_given) (sym (drop-drop p.attrs at all)) ∙ sym (drop-map attr_given p.attrs (drop at all)) ∙ ap (λ (n : ℕ). drop n (map attr_given (drop at all))) count
      ∙ ap (drop (length e.node.attrs)) is ∙ drop-append_seam e.node.attrs (attrs_of es)

  pub attrs_within : at ≤ length all → at + p.attrs ≤ length all
  attrs_within le = omega (arith, le, count, ap length is, length-map (drop at all) attr_given, length-drop at all, length-append e.node.attrs (attrs_of es))

  pub entry_is : (attrs : List OutAttrRef) → attrs ≡ take p.attrs (drop at all) → entry_by p.code (node_given (record { parent = e.node.parent; tag = e.node.tag }) attrs) p.ended ≡ e
  entry_is attrs these =
      let head : NodeHead = record { parent = e.node.parent; tag = e.node.tag } in
      ap (λ (q : Prepared). entry_by q.code (node_given head attrs) q.ended) known
      ∙ ap (λ (xs : List OutAttr). entry_by e.code (record { parent = e.node.parent; tag = e.node.tag; attrs = xs }) e.ended) (ap (map attr_given) these ∙ first_attrs)

-- ---- one entry after the other

module _ (number version : ℕ) where
  pub goes_nowhere : (d : Drafting) (places : List ℕ) (es : List OutEntry) → GoesOn number version d d places places es es
  goes_nowhere d places es = record { appended = λ last h. h; placed = refl; long = refl }

  module _ (old mid new : Drafting) (before places after : List ℕ) (all left : List OutEntry) where
    pub goes_further : (these : List OutEntry) → GoesOn number version old mid before places all left → GoesOn number version mid new places after left these → GoesOn number version old new before after all these
    goes_further these one two = record { appended = λ last h. one.appended last (two.appended last h); placed = two.placed ∙ one.placed; long = two.long ∙ one.long }

    pub goes_by_one : (e : OutEntry) (place : ℕ) → GoesOn number version old mid before places all (e ∷ left) → AppendsEntry number version mid new e → place ≡ len_of mid → after ≡ places ++ place ∷ []
        → GoesOn number version old new before after all left
    goes_by_one e place going one at pushed = record {
      appended = λ last rest. going.appended last (entries_cons number version mid new last e left one rest);
      placed = places_more number version mid new e left places after _ place one at pushed going.placed;
      long = left_more number version mid new e left (e ∷ left) _ one refl going.long;
    }

  -- nothing is left
  pub appended_all : (old new : Drafting) (before after : List ℕ) (all : List OutEntry) → GoesOn number version old new before after all [] → AppendsEntries number version old new all
  appended_all old new before after all going = going.appended new (appends_none number version new)

  pub placed_all : (old new : Drafting) (before after : List ℕ) (all : List OutEntry) → GoesOn number version old new before after all [] → after ≡ before ++ places_from (len_of old) all
  placed_all old new before after all going = sym (append-nil after) ∙ going.placed

-- ---- one stretch after the other

abbrev pub with_stretch : {S : Type 0} → Preparer S → Stretch → Preparer S
with_stretch p s = record p { stretch = s }

abbrev pub to_append : Appender → Stretch → Appender
to_append a s = record a { stretch = s }

module _ {S : Type 0} (given : S → OutUnit) (number : ℕ) (unit : OutUnit) where
  -- of what is ready the stretch says nothing
  pub ready_with : (p : Preparer S) (s : Stretch) → IsReady given number unit p → IsReady given number unit (with_stretch p s)
  ready_with p s ready = record {
    source = ready.source;
    numbered = ready.numbered;
    few = ready.few;
    some = ready.some;
    within = ready.within;
    marks = ready.marks;
    parents = ready.parents;
    depths = ready.depths;
    declared = ready.declared;
    few_declared = ready.few_declared;
  }

  -- what it prepares is what it says
  pub own_ready : (p : Preparer S) → IsReady given number unit p → IsReady given p.number (given p.unit.now) p
  own_ready p ready = subst (λ (n : ℕ). IsReady given n (given p.unit.now) p) (sym ready.numbered) (subst (λ (u : OutUnit). IsReady given number u p) (sym ready.source) ready)

  pub own_prepared : (p q : Preparer S) → IsReady given number unit p → PreparesStretch given p.number (given p.unit.now) p q → PreparesStretch given number unit p q
  own_prepared p q ready h = subst (λ (n : ℕ). PreparesStretch given n unit p q) ready.numbered (subst (λ (u : OutUnit). PreparesStretch given p.number u p q) ready.source h)

  -- Behind the header so many nodes are prepared, of which these wait to be appended.
  pub record IsTurn (start : Appender) (p : Preparer S) (a : Appender) (waiting : List OutEntry) : Type 0 where
    pub ready : IsReady given number unit p
    pub numbered : a.number ≡ number
    pub of_version : a.version ≡ unit.version
    pub going : GoesOn number unit.version start.drafting a.drafting start.places a.places (entries_of number unit) (waiting ++ drop p.next (entries_of number unit))

  pub first_turn : (start : Appender) (p : Preparer S) → IsReady given number unit p → p.next ≡ 0 → IsBegun number unit.version start → IsTurn start p start []
  first_turn start p ready first begun = record {
    ready = ready;
    numbered = begun.numbered;
    of_version = begun.of_version;
    going = subst (λ (n : ℕ). GoesOn number unit.version start.drafting start.drafting start.places start.places (entries_of number unit) (drop n (entries_of number unit))) (sym first)
        (goes_nowhere number unit.version start.drafting start.places (entries_of number unit));
  }

  -- the stretches may change places
  pub turn_with : (start : Appender) (p : Preparer S) (a : Appender) (waiting : List OutEntry) (s t : Stretch) → IsTurn start p a waiting → IsTurn start (with_stretch p s) (to_append a t) waiting
  turn_with start p a waiting s t turn = record { ready = ready_with p s turn.ready; numbered = turn.numbered; of_version = turn.of_version; going = turn.going }

  -- the next stretch is prepared, and waits
  pub turn_prepared : (start : Appender) (p q : Preparer S) (a : Appender) → IsTurn start p a [] → PreparesStretch given p.number (given p.unit.now) p q
      → (es : List OutEntry) × IsStretch es q.stretch × IsTurn start q a es
  turn_prepared start p q a turn h =
      let own = own_prepared p q turn.ready h in (
        own.has.entries,
        own.has.stretch,
        record {
          ready = own.ready;
          numbered = turn.numbered;
          of_version = turn.of_version;
          going = subst (GoesOn number unit.version start.drafting a.drafting start.places a.places (entries_of number unit)) own.has.cut turn.going;
        },
      )

  -- one stretch less is left
  pub turn_further : (p q : Preparer S) (count : ℕ) → IsReady given number unit p → PreparesStretch given p.number (given p.unit.now) p q → count ≡ length unit.nodes → p.next < count → count - q.next < count - p.next
  turn_further p q count ready h all lt = let further = (own_prepared p q ready h).further (omega (arith, lt, all)) in omega (arith, further, lt)

  module _ (start : Appender) (p : Preparer S) (a : Appender) (es : List OutEntry) (s : Stretch) (is : IsStretch es s) (turn : IsTurn start p a es) where
    -- what waits is appended
    pub turn_appended : (b : Appender) → AppendsStretch (to_append a s) (Ok tt) b → IsTurn start p b []
    turn_appended b h =
        let next = h.appended es (drop p.next (entries_of number unit)) is in
        let of_unit = subst (λ (v : ℕ). GoesOn number v a.drafting b.drafting a.places b.places (es ++ drop p.next (entries_of number unit)) (drop p.next (entries_of number unit))) turn.of_version
        (subst (λ (n : ℕ). GoesOn n a.version a.drafting b.drafting a.places b.places (es ++ drop p.next (entries_of number unit)) (drop p.next (entries_of number unit))) turn.numbered next) in
        record {
          ready = turn.ready;
          numbered = h.number ∙ turn.numbered;
          of_version = h.version ∙ turn.of_version;
          going = goes_further number unit.version start.drafting a.drafting b.drafting start.places a.places b.places (entries_of number unit) (es ++ drop p.next (entries_of number unit))
              (drop p.next (entries_of number unit)) turn.going of_unit;
        }

    -- or the unit is too long
    pub turn_long : (result : Result (Unit {0}) DraftError) (b : Appender) → IsBegun number unit.version start → AppendsStretch (to_append a s) result b → RefusesLong result (unit_len number unit)
    turn_long (Ok done) b begun h = tt
    turn_long (Err e) b begun h =
        refuses_on (Unit {0}) (Unit {0}) e _ _ (turn.going.long ∙ all_len number unit start.drafting begun.header) (h.long es (drop p.next (entries_of number unit)) is)

  -- all is prepared and appended
  pub turn_last : (start : Appender) (p : Preparer S) (a : Appender) → IsBegun number unit.version start → IsTurn start p a [] → length unit.nodes ≤ p.next → IsEntered number unit a p.declared
  turn_last start p a begun turn past = record {
    start = start;
    begun = begun;
    entries = subst (GoesOn number unit.version start.drafting a.drafting start.places a.places (entries_of number unit)) (drop_all p.next (entries_of number unit) (omega (arith, past, length_entries number unit))) turn.going;
    table = ap (λ (left : List Node). fold with_declaration p.declared (map (λ (n : ℕ × Node). declaration_of number unit.nodes n.0 n.1) (enumerate_from p.next left))) (sym (drop_all p.next unit.nodes past))
        ∙ turn.ready.declared;
  }

  pub turn_ends : (start : Appender) (p : Preparer S) (a : Appender) (es : List OutEntry) (s : Stretch) → IsStretch es s → IsTurn start p a es → IsBegun number unit.version start → length unit.nodes ≤ p.next
      → (result : Result (Unit {0}) DraftError) (b : Appender) → AppendsStretch (to_append a s) result b → OnOk result (IsEntered number unit b p.declared)
  turn_ends start p a es s is turn begun past (Ok done) b h = turn_last start p b begun (turn_appended start p a es s is turn b h) past
  turn_ends start p a es s is turn begun past (Err e) b h = tt
