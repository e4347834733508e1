-- Which kinds of faults an object can have: those of its units, expressions, image and sections, relocations, line tables, lists and frames.
use Rattle.std.specs.Prelude.{List, [], ◌∷◌}
use Rattle.ds_base.specs.declared.fault.Kind.{Kind}
use Rattle.ds_base.specs.declared.fault.Kind.TheVariants as kinds

abbrev pub object_kinds : List Kind
object_kinds =
    kinds.Truncated ∷ kinds.LebTooWide ∷ kinds.UnknownForm ∷ kinds.FormOutsideProfile ∷ kinds.BadOffset ∷ kinds.BadAbbrev ∷ kinds.DuplicateCode ∷ kinds.LimitAttributes
    ∷ kinds.UnsupportedVersion ∷ kinds.BadUnit ∷ kinds.SplitUnit ∷ kinds.UnknownCode ∷ kinds.UnclosedSiblings ∷ kinds.LimitDepth ∷ kinds.LimitEntries ∷ kinds.BadReference ∷ kinds.BadIndex
    ∷ kinds.UnknownOp ∷ kinds.OpOutsideProfile ∷ kinds.BadOperandType ∷ kinds.BranchOverRewrite ∷ kinds.LongExpression
    ∷ kinds.NotMachO ∷ kinds.WrongCpu ∷ kinds.BadCommand ∷ kinds.BadSymbols ∷ kinds.BadFileType ∷ kinds.CompressedSection ∷ kinds.BadSection
    ∷ kinds.RelocKind ∷ kinds.RelocPlace ∷ kinds.RelocSymbol ∷ kinds.RelocOverlap
    ∷ kinds.LineVersion ∷ kinds.BadLineHeader ∷ kinds.VliwLine ∷ kinds.BadLineOp ∷ kinds.LineBackwards ∷ kinds.BadList ∷ kinds.BadFrame
    ∷ kinds.BadEntryFormat ∷ kinds.UnknownListEntry ∷ []
