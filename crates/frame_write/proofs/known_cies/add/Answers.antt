use Rattle.std.proofs.Common.{◌≡◌, [], ◌∷◌, ◌++◌, ap, ◌∙◌, None, map}
use Rattle.std.proofs.lemmas.List.{map_push}
use Rattle.indexmap.proofs.CallerLemmas.{insert_entry-new}
use Rattle.indexmap.specs.IndexMap.{get_by}
use Rattle.std.specs.Str.{bytes_eq}
use Rattle.ds_base.specs.declared.text_key.TextKey.{TextKey}
use Rattle.frame_write.specs.Known.{place_in}
use Rattle.frame_write.proofs.Keys.{lookup-shown, shown}
use Rattle.frame_write.proofs.known_cies.add.Goals as goal

pub returns : goal.returns
returns c =
    let key : TextKey = record { text = c.args.cie } in
    let places = c.known.inside.places in
    let absent : get_by (λ k. bytes_eq c.args.cie.now k.text.now) places ≡ None =
    lookup-shown c.args.cie.now places.entries ∙ ap (λ known. place_in known c.args.cie.now) c.known.view_is ∙ c.requires.new in
    ap (map shown) (c.in_ok-insert.ensures.entries ∙ insert_entry-new _ places key c.args.place absent)
    ∙ map_push shown places.entries (key, c.args.place)
    ∙ ap (λ known. known ++ (c.args.cie.now, c.args.place) ∷ []) c.known.view_is
