use Rattle.srcp_core.proofs.Names.{ap, sym, ◌∙◌, ◌++◌, State, fewer_beyond, Start}
use Rattle.srcp_rules.proofs.CursorLaws.{beyond, beyond-none}
use Rattle.srcp_core.proofs.Invariants.RowLists.{beyond_start, one_listed}
use Rattle.srcp_core.proofs.server_core.all_rows.Goals as goal
use Rattle.std.proofs.lemmas.List.{append-nil}

pub loop-row-init : goal.loop-row-init
loop-row-init g c =
    ap (λ (list : State). list ++ beyond Start (g.R.Rows.state c.args.rows.now)) c.new-list.ensures
    ∙ beyond_start _

pub loop-row-smaller : goal.loop-row-smaller
loop-row-smaller g c = fewer_beyond _ _ c.requires _ (sym c.in-Some.ensures)

pub loop-row-preserved : goal.loop-row-preserved
loop-row-preserved g c =
    cc (
      c.in_ok-extend.ensures.ok,
      one_listed _ _ _ _ c.requires
          (sym c.in-Some.ensures) c.loop-row.invariant,
    )

pub returns : goal.returns
returns g c =
    cc (
      append-nil c.loop-row.list,
      beyond-none c.loop-row.at (g.R.Rows.state c.args.rows.now) (sym c.in_default.ensures),
      c.loop-row.invariant,
    )
