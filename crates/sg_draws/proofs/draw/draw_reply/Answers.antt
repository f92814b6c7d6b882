use Rattle.std.proofs.Common.{◌≡◌, ◌∙◌, ap, sym, map, option_map, Some, None}
use Rattle.sg_laws.specs.Named.{first_named}
use Rattle.sg_laws.proofs.Naming.{first_mapped}
use Rattle.sg_draws.proofs.draw.draw_reply.Goals as goal

pub returns-in-Some-clause-served : goal.returns-in-Some-clause-served
returns-in-Some-clause-served g c =
    let law = c.in-Some.law in
    let members = goal.Disorder-dyn g (law.vtable, law.value) in
    let found : first_named c.args.name.now (map (λ b. record {
      title = (goal.Disorder-dyn g (b.vtable, b.value)).title b.value;
      stream =
          (goal.Disorder-dyn g (b.vtable, b.value)).seeded b.value;
    }) c.args.laws.items)
    ≡ Some (record { title = members.title law.value; stream = members.seeded law.value }) =
    first_mapped _ c.args.name.now c.args.laws.items ∙ ap (option_map _) (sym c.named.ensures ∙ c.in-Some.is) in
    rw found c.law_reply.ensures.served

pub returns-in-None-clause-served : goal.returns-in-None-clause-served
returns-in-None-clause-served g c =
    let found : first_named c.args.name.now (map (λ b. record {
      title = (goal.Disorder-dyn g (b.vtable, b.value)).title b.value;
      stream =
          (goal.Disorder-dyn g (b.vtable, b.value)).seeded b.value;
    }) c.args.laws.items)
    ≡ None =
    first_mapped _ c.args.name.now c.args.laws.items ∙ ap (option_map _) (sym c.named.ensures ∙ c.in-None.is) in
    rw found c.refuse.ensures.refused
