-- A value that is appended, with what it adds to texts and lists.
use Rattle.std.proofs.Common.{◌≡◌, ◌+◌, ◌++◌, ℕ, List, length, slice_get, Some, append-nil, refl, sym, ap, ◌∙◌}
use Rattle.byteorder.specs.Endian.{little_bytes}
use Rattle.ds_base.specs.Texts.{with_text}
use Rattle.dwarf_types.specs.declared.address.Span.{Span}
use Rattle.dwarf_types.specs.declared.graph.OutLocation.{OutLocation}
use Rattle.dwarf_types.specs.declared.graph.OutValue.TheVariants as values
use Rattle.dwarf_types.specs.Lists.{location_list_bytes, range_list_bytes}
use Rattle.line_write.proofs.Naming.{number_kept}
use Rattle.patches.specs.declared.hole.Outer.TheVariants as outer
use Rattle.patches.specs.Filling.{Filling, Holey, filled, outer_bytes}
use Rattle.unit_draft.specs.declared.drafting.Drafting.{Drafting}
use Rattle.unit_draft.specs.declared.drafting.Scratch.{Scratch}
use Rattle.unit_draft.specs.Based.{AppendsBased}
use Rattle.unit_draft.specs.Appends.{AppendsValue, Fits}
use Rattle.unit_draft.specs.World.{World}

module _ (number version : ℕ) (old : Drafting) (info : Holey) where
  fits_before : (names : List (List ℕ)) (text : List ℕ) → names ≡ with_text old.names text → (w : World) → Fits number version names w → Fits number version old.names w
  fits_before names text grown w fits = record {
    unit = fits.unit;
    of_version = fits.of_version;
    node = fits.node;
    base = fits.base;
    text = λ i t at. fits.text i t (ap (λ (texts : List (List ℕ)). slice_get texts i) grown ∙ number_kept old.names text i t at);
    entry = fits.entry;
    ranges = fits.ranges;
    locations = fits.locations;
    lines = fits.lines;
  }

  pub text_appended : (names : List (List ℕ)) (text : List ℕ) (i : ℕ) → names ≡ with_text old.names text → slice_get names i ≡ Some text
      → ((f : Filling) → filled info f ≡ filled old.info f ++ outer_bytes f.outer (outer.Text i)) → AppendsValue number version old (record old { info = info; names = names }) (values.Text text)
  text_appended names text i grown at is = record {
    names = fits_before names text grown;
    info = λ w fits. is w.filling ∙ ap (λ (n : ℕ). filled old.info w.filling ++ little_bytes 4 n) (fits.text i text at);
    ranges = sym (append-nil old.ranges);
    locations = λ f place tells. sym (append-nil (filled old.locations f));
    texts = grown;
  }

  pub ranges_appended : (ranges : List ℕ) (spans : List Span) (offset : ℕ) → ranges ≡ old.ranges ++ range_list_bytes version spans → offset ≡ length old.ranges
      → ((f : Filling) → filled info f ≡ filled old.info f ++ outer_bytes f.outer (outer.Ranges offset)) → AppendsValue number version old (record old { info = info; ranges = ranges }) (values.Ranges spans)
  ranges_appended ranges spans offset appended at is = record {
    names = λ w fits. fits;
    info = λ w fits. is w.filling ∙ ap (λ (n : ℕ). filled old.info w.filling ++ little_bytes 4 n) (fits.ranges offset ∙ ap (λ (n : ℕ). w.lists.ranges + n) at);
    ranges = appended;
    locations = λ f place tells. sym (append-nil (filled old.locations f));
    texts = refl;
  }

  pub locations_appended : (locations : Holey) (scratch : Scratch) (items : List OutLocation) (offset : ℕ) → AppendsBased old.locations locations (λ place. location_list_bytes version place items)
      → ((f : Filling) → length (filled old.locations f) ≡ offset) → ((f : Filling) → filled info f ≡ filled old.info f ++ outer_bytes f.outer (outer.Locations offset))
      → AppendsValue number version old (record old { info = info; locations = locations; scratch = scratch }) (values.Locations items)
  locations_appended locations scratch items offset appended at is = record {
    names = λ w fits. fits;
    info = λ w fits. is w.filling ∙ ap (λ (n : ℕ). filled old.info w.filling ++ little_bytes 4 n) (fits.locations offset ∙ ap (λ (n : ℕ). w.lists.locations + n) (sym (at w.filling)));
    ranges = sym (append-nil old.ranges);
    locations = appended;
    texts = refl;
  }
