-- An order of all paths, in which no two differ and are tied: equal paths stand together whatever hashes they have.
use Rattle.std.specs.Prelude.{ℕ, List, reverse, Option}
use Rattle.std.specs.Cmp.Lexicographic.{slice_cmp}
use Rattle.std.specs.Option.{option_cmp}
use Rattle.std.specs.Ordering.{nat_cmp, ordering_then}
use Rattle.std.specs.declared.cmp.Ordering.{Ordering}
use Rattle.odr_names.specs.declared.winners.Ranked.{Ranked}
use Rattle.odr_names.specs.Numbered.{path_at}
use Rattle.type_names.specs.Entries.{Text}
use Rattle.type_names.specs.Names.{Named}
use Rattle.type_names.specs.Paths.{Piece}

-- no text before a text, and texts byte by byte
abbrev pub text_order : Option Text → Option Text → Ordering
text_order = option_cmp (slice_cmp nat_cmp)

-- by object, and then by entry
abbrev pub own_order : Option (ℕ × ℕ) → Option (ℕ × ℕ) → Ordering
own_order = option_cmp (λ a b. ordering_then (nat_cmp a.0 b.0) (nat_cmp a.1 b.1))

-- pieces by ordinal, and then by each of their parts
abbrev pub piece_order : Piece → Piece → Ordering
piece_order a b =
    ordering_then (ordering_then (nat_cmp a.ordinal b.ordinal) (nat_cmp a.parts.tag b.parts.tag))
    (ordering_then (ordering_then (text_order a.parts.name b.parts.name) (text_order a.parts.linkage b.parts.linkage))
    (ordering_then (text_order a.parts.spelled b.parts.spelled) (own_order a.parts.private b.parts.private)))

-- paths by their innermost pieces first
abbrev pub path_order : List Piece → List Piece → Ordering
path_order a b = slice_cmp piece_order (reverse a) (reverse b)

-- ranks by hash, then by path, and then by bid
abbrev pub rank_order : List Named → Ranked → Ranked → Ordering
rank_order names a b =
    ordering_then (ordering_then (nat_cmp a.hash b.hash) (path_order (path_at names a.name) (path_at names b.name))) (nat_cmp a.bid b.bid)
