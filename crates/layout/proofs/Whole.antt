-- A layout from what is known of its drafts, and why there is none.
use Rattle.std.proofs.Common.{◌≡◌, ℕ, ◌+◌, ◌-◌, ◌^◌, arith, Bool, true, false, List, length, fold, map, Option, Some, None, Result, Ok, Err, refl, sym, ap, ◌∙◌}
use Rattle.std.proofs.lemmas.Bool.{le-leb}
use Rattle.std.proofs.lemmas.List.{length-map}
use Rattle.ds_base.specs.declared.fault.Part.{Part}
use Rattle.ds_base.specs.Texts.{section_of}
use Rattle.dwarf_types.specs.declared.frames.OutFrame.{OutFrame}
use Rattle.dwarf_types.specs.declared.graph.Graph.{Graph}
use Rattle.dwarf_types.specs.Encode.{aranges_section, frame_section, line_str_section, str_section}
use Rattle.dwarf_types.specs.Frames.{frames_bytes}
use Rattle.dwarf_types.specs.Layout.{line_texts_of, numbered_units, texts_of}
use Rattle.unit_draft.specs.declared.unit.Draft.{Draft}
use Rattle.unit_draft.specs.Drafted.{AreDrafts}
use Rattle.layout.specs.declared.placing.PartPlaces.{PartPlaces}
use Rattle.layout.specs.declared.placing.Placing.{Placing}
use Rattle.layout.specs.declared.sizes.Sizes.{Sizes}
use Rattle.layout.specs.declared.table.Common.TheVariants as commons
use Rattle.layout.specs.declared.table.Content.{Content}
use Rattle.layout.specs.declared.table.Content.TheVariants as contents
use Rattle.text_pool.specs.declared.error.TextError.{TextError}
use Rattle.text_pool.specs.declared.error.TextError.TheVariants as text_errors
use Rattle.layout.specs.declared.starts.Starts.{Starts}
use Rattle.layout.specs.declared.text.Texts.{Texts}
use Rattle.layout.specs.declared.text.TextsOf.TheVariants as owners
use Rattle.text_pool.specs.Joins.{place_in}
use Rattle.layout.specs.Laid.{Laid, laid, line_text_places, text_places}
use Rattle.layout.specs.declared.text.TextsOf.{TextsOf}
use Rattle.layout.specs.Lengths.{long_section, long_unit, size_in, starts_of}
use Rattle.layout.specs.Sections.{content_bytes}
use Rattle.layout.specs.Pass.{AreBelow, MakesTexts, TellsTexts, behind_draft, first_long, is_long, no_starts, none_placed, sized, texts_by, texts_for, texts_len, with_draft}
use Rattle.layout.proofs.Behind.{same_below}
use Rattle.layout.proofs.Limits.{early, ends_small, late, long_is, none_at, same_long}
use Rattle.layout.proofs.OfDrafts.{AllPlaced, as_many, at_end, ends_are, line_text_places_are, line_texts_are, none_long, placed_all, text_places_are, texts_are}
use Rattle.layout.proofs.SectionLengths.{sizes_are}

abbrev laid_by : List ℕ → List PartPlaces → List ℕ → List (List ℕ) → List ℕ → List (List ℕ) → List ℕ → List ℕ → Starts → List Draft → Laid
laid_by starts places texts text_places line_texts line_places aranges frames ends drafts =
    record { starts = starts; parts = places; texts = texts; text_places = text_places; line_texts = line_texts; line_text_places = line_places; aranges = aranges; frames = frames; ends = ends; drafts = drafts }

all_same : (drafts : List Draft) (a a' : List ℕ) (b b' : List PartPlaces) (c c' : List ℕ) (d d' : List (List ℕ)) (e e' : List ℕ) (f f' : List (List ℕ)) (g g' h h' : List ℕ) (i i' : Starts) → a ≡ a' → b ≡ b' → c ≡ c' → d ≡ d' → e ≡ e' → f ≡ f' → g ≡ g' → h ≡ h' → i ≡ i'
    → laid_by a b c d e f g h i drafts ≡ laid_by a' b' c' d' e' f' g' h' i' drafts
all_same drafts a a' b b' c c' d d' e e' f f' g g' h h' i i' ea eb ec ed ee ef eg eh ei = rw (ea, eb, ec, ed, ee, ef, eg, eh, ei) refl

abbrev pub long_by : Sizes → Content → Bool
long_by sizes content = is_long (size_in sizes content)

-- texts are too long where they are told to be
pub long_texts : (of : TextsOf) (drafts : List Draft) (made : Result Texts TextError) (told : Option Texts) → MakesTexts of drafts made → TellsTexts made told → is_long (texts_len told) ≡ is_long (length (section_of (texts_by of drafts)))
long_texts of drafts (Ok texts) told is tells = ap (λ (t : Option Texts). is_long (texts_len t)) tells ∙ ap (λ (t : Texts). is_long (length t.section)) is
long_texts of drafts (Err text_errors.Long) told long tells =
    ap (λ (t : Option Texts). is_long (texts_len t)) tells ∙ sym (le-leb (2 ^ 32 - 1) (length (section_of (texts_by of drafts))) long)
long_texts of drafts (Err text_errors.NoMemory) told is tells = absurd tells

module _ (graph : Graph) (drafts : List Draft) (are : AreDrafts graph drafts) where
  -- the sizes of the two sections of texts
  texts_size : length (section_of (texts_by owners.Entries drafts)) ≡ length (str_section graph)
  texts_size = ap (λ (texts : List (List ℕ)). length (section_of texts)) (texts_are graph drafts are)

  line_texts_size : length (section_of (texts_by owners.Lines drafts)) ≡ length (line_str_section graph)
  line_texts_size = ap (λ (texts : List (List ℕ)). length (section_of texts)) (line_texts_are graph drafts are)

  -- the sizes of all sections
  abbrev full : Sizes
  full = sized (starts_of graph (length graph.units)) (length (str_section graph)) (length (line_str_section graph)) (length (aranges_section graph)) (length (frame_section graph))

  full_are : (content : Content) → size_in full content ≡ length (content_bytes graph content)
  full_are = sizes_are graph full refl refl refl refl refl

  module _ (ends : Starts) (ends_is : ends ≡ fold behind_draft no_starts drafts) (texts line_texts : ℕ) (texts_long : is_long texts ≡ is_long (length (section_of (texts_by owners.Entries drafts)))) (line_texts_long : is_long line_texts ≡ is_long (length (section_of (texts_by owners.Lines drafts)))) where
    abbrev first : Sizes
    first = sized ends texts line_texts 0 0

    ends_same : ends ≡ starts_of graph (length graph.units)
    ends_same = ends_is ∙ ends_are graph drafts are

    known : (content : Content) → late content ≡ false → long_by first content ≡ is_long (length (content_bytes graph content))
    known contents.Entries e = ap (λ (s : Starts). long_by (sized s texts line_texts 0 0) contents.Entries) ends_same ∙ ap is_long (full_are contents.Entries)
    known contents.Lines e = ap (λ (s : Starts). long_by (sized s texts line_texts 0 0) contents.Lines) ends_same ∙ ap is_long (full_are contents.Lines)
    known (contents.Pieces piece) e = ap (λ (s : Starts). long_by (sized s texts line_texts 0 0) (contents.Pieces piece)) ends_same ∙ ap is_long (full_are (contents.Pieces piece))
    known (contents.Lists piece) e = ap (λ (s : Starts). long_by (sized s texts line_texts 0 0) (contents.Lists piece)) ends_same ∙ ap is_long (full_are (contents.Lists piece))
    known (contents.Common commons.Texts) e = texts_long ∙ ap is_long texts_size
    known (contents.Common commons.LineTexts) e = line_texts_long ∙ ap is_long line_texts_size
    known (contents.Common commons.Aranges) e = absurd cc
    known (contents.Common commons.Frames) e = absurd cc

    silent : (content : Content) → late content ≡ true → long_by first content ≡ false
    silent contents.Entries e = absurd cc
    silent contents.Lines e = absurd cc
    silent (contents.Pieces piece) e = absurd cc
    silent (contents.Lists piece) e = absurd cc
    silent (contents.Common commons.Texts) e = absurd cc
    silent (contents.Common commons.LineTexts) e = absurd cc
    silent (contents.Common commons.Aranges) e = refl
    silent (contents.Common commons.Frames) e = refl

    -- a section of those that are measured first is too long
    pub stopped_early : (part : Part) → first_long (long_by first) ≡ Some part → (long_unit graph ≡ None) × (long_section graph ≡ Some part)
    stopped_early part e = (none_long graph drafts are, long_is graph ∙ early (long_by first) (λ content. is_long (length (content_bytes graph content))) known silent part e)

  module _ (ends : Starts) (ends_is : ends ≡ fold behind_draft no_starts drafts) (strings lines : Texts) (strings_are : strings ≡ texts_for owners.Entries drafts) (lines_are : lines ≡ texts_for owners.Lines drafts) (placing : Placing) (placing_is : placing ≡ fold with_draft none_placed drafts) (frames : List OutFrame) (frames_same : graph.frames ≡ frames) (described : List ℕ) (described_is : described ≡ frames_bytes frames) where
    h : AllPlaced graph (fold with_draft none_placed drafts)
    h = placed_all graph drafts are

    texts_same : strings.section ≡ str_section graph
    texts_same = ap (λ (t : Texts). t.section) strings_are ∙ ap section_of (texts_are graph drafts are)

    line_texts_same : lines.section ≡ line_str_section graph
    line_texts_same = ap (λ (t : Texts). t.section) lines_are ∙ ap section_of (line_texts_are graph drafts are)

    places_same : strings.places ≡ map (λ n. text_places graph n.1) (numbered_units graph)
    places_same =
        ap (λ (t : Texts). t.places) strings_are ∙ ap (λ (all : List (List ℕ)). map (λ (d : Draft). map (place_in all) d.names) drafts) (texts_are graph drafts are)
        ∙ text_places_are graph drafts are (place_in (texts_of graph))

    line_places_same : lines.places ≡ map (λ n. line_text_places graph n.1) (numbered_units graph)
    line_places_same =
        ap (λ (t : Texts). t.places) lines_are ∙ ap (λ (all : List (List ℕ)). map (λ (d : Draft). map (place_in all) d.line_names) drafts) (line_texts_are graph drafts are)
        ∙ line_text_places_are graph drafts are (place_in (line_texts_of graph))

    aranges_same : placing.aranges ≡ aranges_section graph
    aranges_same = ap (λ (p : Placing). p.aranges) placing_is ∙ h.aranges

    described_same : described ≡ frame_section graph
    described_same = described_is ∙ ap frames_bytes (sym frames_same)

    abbrev all : Sizes
    all = sized ends (length strings.section) (length lines.section) (length placing.aranges) (length described)

    long_last : long_section graph ≡ first_long (long_by all)
    long_last =
        long_is graph
        ∙ sym (same_long (long_by all) (λ content. is_long (length (content_bytes graph content))) (λ content.
        ap is_long (sizes_are graph all (ends_is ∙ ends_are graph drafts are) (ap length texts_same) (ap length line_texts_same) (ap length aranges_same) (ap length described_same) content)))

    -- a section is too long
    pub stopped_late : (part : Part) → first_long (long_by all) ≡ Some part → (long_unit graph ≡ None) × (long_section graph ≡ Some part)
    stopped_late part e = (none_long graph drafts are, long_last ∙ e)

    -- none is
    pub all_laid : first_long (long_by all) ≡ None
        → (laid_by placing.starts placing.parts strings.section strings.places lines.section lines.places placing.aranges described placing.at drafts ≡ laid graph drafts) × (long_unit graph ≡ None) × (long_section graph ≡ None) × AreDrafts graph drafts
    all_laid e = (
      all_same drafts _ _ _ _ _ _ _ _ _ _ _ _ _ _ _ _ _ _ (ap (λ (p : Placing). p.starts) placing_is ∙ h.starts) (ap (λ (p : Placing). p.parts) placing_is ∙ h.parts) texts_same
          places_same line_texts_same line_places_same
          aranges_same described_same (ap (λ (p : Placing). p.at) placing_is ∙ at_end drafts none_placed ∙ ends_are graph drafts are),
      none_long graph drafts are,
      long_last ∙ e,
      are,
    )

-- texts that are too long are told
pub told_long : (ends : Starts) (line_texts : ℕ) → first_long (long_by (sized ends (2 ^ 32 - 1) line_texts 0 0)) ≡ None → ⊥
told_long ends line_texts e = cc

pub told_lines_long : (ends : Starts) (texts : ℕ) → first_long (long_by (sized ends texts (2 ^ 32 - 1) 0 0)) ≡ None → ⊥
told_lines_long ends texts e =
    let short : is_long (2 ^ 32 - 1) ≡ false = none_at (long_by (sized ends texts (2 ^ 32 - 1) 0 0)) 4 _ refl e in
    cc

module _ (drafts : List Draft) (ends : Starts) (ends_is : ends ≡ fold behind_draft no_starts drafts) (texts line_texts : ℕ) (short : first_long (long_by (sized ends texts line_texts 0 0)) ≡ None) where
  -- the places behind all drafts have four bytes
  pub ends_below : AreBelow (2 ^ 32) (fold behind_draft no_starts drafts)
  ends_below = same_below _ ends (2 ^ 32) (sym ends_is) (ends_small (sized ends texts line_texts 0 0) short)

  module _ (placing : Placing) (is : placing ≡ fold with_draft none_placed drafts) where
    pub placing_below : AreBelow (2 ^ 32) placing.at
    placing_below = same_below placing.at _ (2 ^ 32) (ap (λ (p : Placing). p.at) is ∙ at_end drafts none_placed) ends_below

    pub placing_whole : (strings lines : Texts) → strings ≡ texts_for owners.Entries drafts → lines ≡ texts_for owners.Lines drafts
        → AreBelow (2 ^ 32) placing.at × (length placing.parts ≡ length drafts) × (length strings.places ≡ length drafts) × (length lines.places ≡ length drafts)
    placing_whole strings lines strings_are lines_are =
        let many : length (fold with_draft none_placed drafts).parts ≡ 0 + length drafts = as_many drafts none_placed in (
          placing_below,
          omega (arith, ap (λ (p : Placing). length p.parts) is, many),
          ap (λ (t : Texts). length t.places) strings_are ∙ length-map drafts _,
          ap (λ (t : Texts). length t.places) lines_are ∙ length-map drafts _,
        )
