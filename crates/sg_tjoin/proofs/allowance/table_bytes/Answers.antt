use Rattle.std.proofs.Common.{◌≡◌, ◌≤◌, ◌*◌, ◌+◌, ◌^◌, arith, length, sym, subst}
use Rattle.sg_tjoin.proofs.TableBounds.{few_terminals, tables_bounded}
use Rattle.sg_tjoin.specs.Allowance.{table_bytes as bytes_of}
use Rattle.sg_tjoin.proofs.allowance.table_bytes.Goals as goal

pub overflow_mul-result-2 : goal.overflow_mul-result-2
overflow_mul-result-2 c =
    omega (arith, few_terminals c.args.web.now c.args.terminals.now c.requires, c.edges-edges.ensures.web.few_nodes, c.len-count.ensures)

pub overflow_add-result : goal.overflow_add-result
overflow_add-result c =
    omega (
      arith,
      few_terminals c.args.web.now c.args.terminals.now c.requires,
      c.edges-edges.ensures.web.few_nodes,
      c.len-count.ensures,
      c.from-nodes.ensures,
      c.nodes.ensures.value,
    )

pub overflow_mul-result-3 : goal.overflow_mul-result-3
overflow_mul-result-3 c =
    let all : bytes_of (length c.args.terminals.now) c.args.web.now.nodes ≤ 20 * (2 ^ 24 * 2 ^ 24) =
    tables_bounded c.args.web.now c.args.terminals.now c.requires (2 ^ 24) c.edges-edges.ensures.web.few_nodes in
    rw (c.len-count.ensures, c.from-nodes.ensures, c.nodes.ensures.value) (omega (arith, all))
