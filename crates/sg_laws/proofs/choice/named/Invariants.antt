use Rattle.std.proofs.Common.{◌≡◌, drop, find, bytes_eq}
use Rattle.sg_laws.proofs.choice.named.Given as goal

abbrev pub invariant-loop-place : goal.invariant-loop-place
invariant-loop-place g l =
    (find (λ b. bytes_eq ((goal.Disorder-dyn g (b.vtable, b.value)).title b.value) l.name) l.fn.laws.items
    ≡ find (λ b. bytes_eq ((goal.Disorder-dyn g (b.vtable, b.value)).title b.value) l.name) (drop l.place l.fn.laws.items))
    × (l.laws ≡ l.fn.laws)
