-- The commands of an image's segments, one at a time.
use Rattle.std.proofs.Common.{◌≡◌, ◌<◌, ◌+◌, ℕ, Bool, true, false, List, [], ◌∷◌, ◌++◌, length, take, drop, get_or, append_assoc, append-nil, refl, sym, ap, ◌∙◌}
use Rattle.std.specs.List.{flat_map}
use Rattle.ds_base.proofs.Walking.{drop_one}
use Rattle.macho_read.specs.declared.image.Section.{Section}
use Rattle.macho_read.specs.declared.image.Segment.{Segment}
use Rattle.macho_read.specs.ImageSpelling.{LoadCommand, command_of}
use Rattle.macho_read.specs.Spelling.{command_bytes, section_bytes}
use Rattle.macho_write.specs.Records.{commands_text, placed_section, placed_sections, segment_command, segment_commands}

pub commands_append : (xs ys : List LoadCommand) → commands_text (xs ++ ys) ≡ commands_text xs ++ commands_text ys
commands_append [] ys = refl
commands_append (x ∷ xs) ys = ap (λ (more : List ℕ). command_bytes (command_of x) ++ more) (commands_append xs ys) ∙ sym (append_assoc (command_bytes (command_of x)) (commands_text xs) (commands_text ys))

-- the bytes behind the size of a segment's command, part by part: what stands before its sections, and they
pub body_is : (front sections o a b : List ℕ) → o ≡ [] → a ≡ o ++ front → b ≡ a ++ sections → b ≡ front ++ sections
body_is front sections o a b eo ea eb = eb ∙ ap (λ (l : List ℕ). l ++ sections) (ea ∙ ap (λ (l : List ℕ). l ++ front) eo)

-- no bytes follow in the command
pub whole_body : (front sections o a b : List ℕ) → o ≡ [] → a ≡ o ++ front → b ≡ a ++ sections → b ≡ front ++ (sections ++ [])
whole_body front sections o a b eo ea eb = body_is front sections o a b eo ea eb ∙ ap (λ (l : List ℕ). front ++ l) (sym (append-nil sections))

-- ---- sections

section_more : (placed : Bool) (s : Section) (rest : List Section) → flat_map section_bytes (placed_sections placed (s ∷ rest)) ≡ section_bytes (placed_section placed s) ++ flat_map section_bytes (placed_sections placed rest)
section_more true s rest = refl
section_more false s rest = refl

-- what is left begins with the next section's record
pub sections_more : (placed : Bool) (sections : List Section) (i : ℕ) (s : Section) → i < length sections → s ≡ get_or sections i s → (out new all : List ℕ) → new ≡ out ++ section_bytes (placed_section placed s)
    → out ++ flat_map section_bytes (placed_sections placed (drop i sections)) ≡ all → new ++ flat_map section_bytes (placed_sections placed (drop (i + 1) sections)) ≡ all
sections_more placed sections i s lt is out new all one h =
    let rest : List ℕ = flat_map section_bytes (placed_sections placed (drop (i + 1) sections)) in
    ap (λ (front : List ℕ). front ++ rest) one ∙ append_assoc out (section_bytes (placed_section placed s)) rest
    ∙ ap (λ (back : List ℕ). out ++ back) (sym (section_more placed s (drop (i + 1) sections)))
    ∙ ap (λ (left : List Section). out ++ flat_map section_bytes (placed_sections placed left)) (sym (drop_one sections i s lt is)) ∙ h

-- ---- segments

abbrev pub segments_text : Bool → List Segment → List Section → List ℕ
segments_text placed segments sections = commands_text (segment_commands placed segments sections)

-- what is left begins with the next segment's command
module _ (placed : Bool) (segments : List Segment) (left own others : List Section) (i : ℕ) (s : Segment) (lt : i < length segments) (is : s ≡ get_or segments i s) (own_is : own ≡ take s.sections left) (others_is : others ≡ drop s.sections left) where
  abbrev one : List Section → List ℕ
  one mine = command_bytes (command_of (segment_command placed (s, mine)))

  segments_step : segments_text placed (drop i segments) left ≡ one own ++ segments_text placed (drop (i + 1) segments) others
  segments_step =
      ap (λ (ss : List Segment). segments_text placed ss left) (drop_one segments i s lt is)
      ∙ ap (λ (mine : List Section). one mine ++ segments_text placed (drop (i + 1) segments) (drop s.sections left)) (sym own_is)
      ∙ ap (λ (more : List Section). one own ++ segments_text placed (drop (i + 1) segments) more) (sym others_is)

  pub segments_more : (out new all : List ℕ) → new ≡ out ++ one own → out ++ segments_text placed (drop i segments) left ≡ all → new ++ segments_text placed (drop (i + 1) segments) others ≡ all
  segments_more out new all e h =
      let rest : List ℕ = segments_text placed (drop (i + 1) segments) others in
      ap (λ (front : List ℕ). front ++ rest) e ∙ append_assoc out (one own) rest ∙ ap (λ (back : List ℕ). out ++ back) (sym segments_step) ∙ h
