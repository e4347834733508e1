use Rattle.std.proofs.Common.{Vec, Global, ◌≡◌, ◌<◌, ◌++◌, [], ◌∷◌, ℕ, List, Option, length, take, append-nil, sym, ap, ◌∙◌, arith}
use Rattle.std.specs.List.{filter_map, cons_option}
use Rattle.std.specs.Option.{option_map}
use Rattle.std.proofs.lemmas.Result.{err_from_is_err_and}
use Rattle.ds_base.specs.declared.fault.ReadError.TheVariants as errors
use Rattle.dwarf_types.specs.declared.frames.RawFrame.{RawFrame}
use Rattle.dwarf_types.specs.SeenFrames.{raw_frame_seen}
use Rattle.frame_table.specs.declared.frames.Named.{Named}
use Rattle.frame_table.specs.Entry.{content_of}
use Rattle.frame_table.specs.Description.{values_at}
use Rattle.frame_table.specs.Frames.{frame_of}
use Rattle.frame_table.specs.Order.{entry_of}
use Rattle.frame_table.proofs.Noted.{firsts_more, lent_all, noted_all}
use Rattle.frame_table.proofs.Trying.{bind_ok, tried_more, named_refused, values_refused, frames_more, past}
use Rattle.frame_table.proofs.frames.frames_in.Goals.{in-Some+in_ok-add, in_default}
use Rattle.frame_table.proofs.frames.frames_in.Goals as goal

pub add-requires-clause-first : goal.add-requires-clause-first
add-requires-clause-first c k is =
    let cie = rw c.in-Some.is at c.in_ok-named.ensures.cie in
    let has = c.loop-i.invariant.firsts c.in-Some.named.cie k (rw c.deref_mut.ensures.value at is) in
    (has.0, has.1, has.2 ∙ sym cie.1)

pub loop-i-preserved : goal.loop-i-preserved
loop-i-preserved c =
    let bytes = c.args.bytes.now in
    let entries = c.args.entries.now in
    let i = c.loop-i.i in
    let h = frame_of c.args.image.now c.args.relocs.now bytes entries in
    let so_far = filter_map h (take i entries) in
    let read = bind_ok (values_at bytes (entry_of entries i)) (h (entry_of entries i)) (option_map (λ (n : Named). raw_frame_seen n.frame) c.in_ok-named.field-0) c.in_ok-named.ensures.frame in
    let tried = tried_more bytes entries i _ c.requires.apart c.loop-i-test.true c.in_ok-check_named.ensures.named read.0 c.loop-i.invariant.tried in
    let behind = past c.first_missed-missed.result i c.in_ok-check_named.ensures.behind in
    elim c.match-branch-4.branch [
      | in-Some+in_ok-add w ↦
          let cie = rw w.in-Some.is at c.in_ok-named.ensures.cie in
          let n = w.in-Some.named.cie in
          let lt : n < length c.loop-i.firsts.items = omega (arith, cie.0, c.loop-i.invariant.noted) in
          let new = rw w.deref_mut.ensures.value at w.in_ok-add.ensures.firsts in
          let len = noted_all c.loop-i.firsts.items w.add.new.firsts n (length c.loop-i.frames) new in
          let all : c.match-branch-4.firsts.items ≡ w.add.new.firsts = ap (λ (v : Vec (Option ℕ) Global). v.items) w.firsts-is ∙ lent_all w.add.new.firsts c.loop-i.firsts.items c.loop-i.firsts.len (omega (arith, c.loop-i.firsts.ok.0)) len in
          record {
            tried = tried;
            frames =
                w.frames-is ∙ w.in_ok-add.ensures.frames ∙ ap (λ (fs : List RawFrame). fs ++ raw_frame_seen w.in-Some.named.frame ∷ []) c.loop-i.invariant.frames
                ∙ ap (λ (o : Option RawFrame). so_far ++ cons_option o []) (sym (read.1 ∙ ap (option_map (λ (n : Named). raw_frame_seen n.frame)) w.in-Some.is)) ∙ sym (frames_more h entries i c.loop-i-test.true);
            behind = behind;
            firsts =
                rw (all, w.frames-is, w.in_ok-add.ensures.frames) (firsts_more (λ k. content_of bytes (entry_of entries k)) c.loop-i.frames (raw_frame_seen w.in-Some.named.frame) c.loop-i.firsts.items c.loop-i.invariant.firsts n w.add.new.firsts lt cie.1 new);
            noted = ap length all ∙ len ∙ c.loop-i.invariant.noted;
          }
      | in_default w ↦ record {
        tried = tried;
        frames =
            w.frames-is ∙ c.loop-i.invariant.frames ∙ sym (append-nil so_far)
            ∙ ap (λ (o : Option RawFrame). so_far ++ cons_option o []) (sym (read.1 ∙ ap (option_map (λ (n : Named). raw_frame_seen n.frame)) w.in_default.is)) ∙ sym (frames_more h entries i c.loop-i-test.true);
        behind = behind;
        firsts = rw (w.firsts-is, w.frames-is) c.loop-i.invariant.firsts;
        noted = rw w.firsts-is c.loop-i.invariant.noted;
      }
    ]

pub returns-in_err-check_named : goal.returns-in_err-check_named
returns-in_err-check_named c =
    let p = err_from_is_err_and c.from_residual-in_err-check_named.result c.from_residual-in_err-check_named.ensures.1 in
    rw (p.1, p.2) (named_refused c.args.image.now c.args.relocs.now c.args.bytes.now c.args.entries.now c.loop-i.i _ c.requires.apart c.loop-i-test.true c.in_err-check_named.ensures.named c.loop-i.invariant.tried)

pub returns-in_err-named : goal.returns-in_err-named
returns-in_err-named c =
    let p = err_from_is_err_and c.from_residual-in_err-named.result c.from_residual-in_err-named.ensures.1 in
    rw (p.1, p.2) (values_refused c.args.image.now c.args.relocs.now c.args.bytes.now c.args.entries.now c.loop-i.i (errors.Faulty _) c.requires.apart c.loop-i-test.true c.in_ok-check_named.ensures.named c.in_err-named.ensures.frame c.loop-i.invariant.tried)
