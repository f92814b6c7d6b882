use Rattle.std.proofs.Common.{◌≡◌, ◌<◌, ◌≤◌, ◌++◌, ◌∷◌, [], length, get_or, ap, ◌∙◌, arith}
use Rattle.std.proofs.lemmas.List.{get_or_read}
use Rattle.std.proofs.lemmas.List.Sums.{count_by-le-length}
use Rattle.sg_planar.specs.Search.{unmarked_count}
use Rattle.sg_planar.proofs.Searches.{order_in, search_start, search_more, search_done}
use Rattle.sg_planar.proofs.breadth_first.walk.Goals as goal

pub loop-next-init : goal.loop-next-init
loop-next-init c =
    let items : c.push.new.self.items ≡ c.args.root ∷ [] = c.in_ok-push.ensures.items ∙ ap (λ xs. xs ++ c.args.root ∷ []) c.clear.ensures.items in
    rw items (search_start _ c.n-next-end.ensures.instance _ _ _ (omega (arith, c.requires.root_in, c.requires.lengths)) c.requires.free)

pub visit-requires-clause-spin_in : goal.visit-requires-clause-spin_in
visit-requires-clause-spin_in c =
    let here : c.loop-next.next < length c.loop-next.order.items = omega (arith, c.index-spin.ensures, c.loop-next.invariant.at_most) in
    let spin : c.index-spin.result.now ≡ get_or c.loop-next.order.items c.loop-next.next 0 = get_or_read _ _ _ here c.index-spin.ensures _ in
    omega (arith, spin, c.requires.lengths, order_in _ c.n-next-end.ensures.instance _ _ _ _ _ _ _ c.loop-next.invariant here)

pub loop-next-preserved : goal.loop-next-preserved
loop-next-preserved c =
    let here : c.loop-next.next < length c.loop-next.order.items = omega (arith, c.index-spin.ensures, c.loop-next.invariant.at_most) in
    let spin : c.index-spin.result.now ≡ get_or c.loop-next.order.items c.loop-next.next 0 = get_or_read _ _ _ here c.index-spin.ensures _ in
    search_more _ c.n-next-end.ensures.instance _ _ _ _ _ _ _ _ here c.loop-next.invariant (rw spin at c.in_ok-visit.ensures)

pub returns-after-loop-next : goal.returns-after-loop-next
returns-after-loop-next c =
    let few : unmarked_count c.args.marks.now ≤ length c.args.marks.now = count_by-le-length _ _ in
    search_done _ c.n-next-end.ensures.instance _ _ _ _ _ _
    (omega (arith, few, c.requires.lengths, c.loop-next.invariant.count, c.n-next-end.ensures.value, c.loop-next-test.false)) c.requires.closed
    c.loop-next.invariant

pub returns-then-next-len : goal.returns-then-next-len
returns-then-next-len c = search_done _ c.n-next-end.ensures.instance _ _ _ _ _ _ (omega arith) c.requires.closed c.loop-next.invariant
