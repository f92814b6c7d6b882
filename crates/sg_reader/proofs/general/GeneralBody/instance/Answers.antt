use Rattle.std.proofs.Common.{List, ℕ, length, map, ◌∙◌, ap, unwrap_or}
use Rattle.std.proofs.lemmas.List.{length-map}
use Rattle.std.proofs.lemmas.Result.{IfErr-weaker, IfOk-weaker}
use Rattle.sg_model.specs.Ising.{Ising}
use Rattle.sg_reader.specs.Body.{given_darts}
use Rattle.sg_reader.proofs.GeneralLaws.{instance-general, lists-count}
use Rattle.sg_reader.proofs.general.GeneralBody.instance.Goals as goal

pub new-requires-2-clause-lists : goal.new-requires-2-clause-lists
new-requires-2-clause-lists c =
    let h = c.requires.held in
    ap (length {A = List ℕ}) c.in_ok-rotation.ensures ∙ length-map _ _ ∙ ap length c.as_slice.ensures ∙ lists-count h.start h.body _ h.held

pub returns-clause-ok : goal.returns-clause-ok
returns-clause-ok c =
    let seam = c.unwrap_or-seam.result in
    let cut = c.unwrap_or-seam.ensures ∙ ap (unwrap_or c.args.self.seam) c.new.ensures in
    let made = λ (rotation : List (List ℕ)). let i : Ising = record { n = c.args.self.n; bonds = c.args.self.bonds; rotation = rotation; seam = seam } in i in
    let laid = ap made (c.in_ok-rotation.ensures ∙ ap (map given_darts) c.as_slice.ensures) in
    IfOk-weaker c.new-2.result _ _ (λ inst e start body h. e ∙ laid ∙ instance-general start body _ _ h cut) c.new-2.ensures.ok

pub returns-clause-fault : goal.returns-clause-fault
returns-clause-fault c =
    let seam = c.unwrap_or-seam.result in
    let cut = c.unwrap_or-seam.ensures ∙ ap (unwrap_or c.args.self.seam) c.new.ensures in
    let made = λ (rotation : List (List ℕ)). let i : Ising = record { n = c.args.self.n; bonds = c.args.self.bonds; rotation = rotation; seam = seam } in i in
    let laid = ap made (c.in_ok-rotation.ensures ∙ ap (map given_darts) c.as_slice.ensures) in
    IfErr-weaker c.new-2.result _ _ (λ e f start body h. let same = laid ∙ instance-general start body _ _ h cut in rw (← same) f) c.new-2.ensures.refused
