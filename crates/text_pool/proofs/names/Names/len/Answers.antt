use Rattle.std.proofs.Common.{List, ℕ, length, sym, ap, ◌∙◌}
use Rattle.text_pool.proofs.Ends.{length-texts_from}
use Rattle.text_pool.proofs.names.Names.len.Goals as goal

pub returns : goal.returns
returns c = ap (λ (ends : List ℕ). length ends) c.as_slice.ensures.value ∙ sym (length-texts_from 0 c.self.inside.ends.items c.self.inside.bytes.items) ∙ ap (λ (texts : List (List ℕ)). length texts) c.self.view_is
