use Rattle.std.proofs.Common.{◌∙◌, ap, subst, sym}
use Rattle.std.proofs.lemmas.Result.{IfOk-weaker}
use Rattle.addr_map.specs.declared.map.AddrMap.{AddrMap}
use Rattle.addr_map.specs.Ranges.{map_from}
use Rattle.addr_map.specs.Sound.{IsSound}
use Rattle.addr_map.proofs.Soundness.{map_sound}
use Rattle.addr_map.proofs.ranges.build.Goals as goal

pub returns-clause-sound : goal.returns-clause-sound
returns-clause-sound c =
    let given = c.deref-2.ensures.value ∙ c.in_ok-given.ensures in
    IfOk-weaker _ _ _ (λ (map : AddrMap) is. subst IsSound (sym (is ∙ ap map_from given)) (map_sound c.args.image.now c.as_slice.result.now)) c.make_map.ensures
