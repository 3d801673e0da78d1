use Rattle.srcp_rules.proofs.Names
use Names.{◌≡◌, List, Result, Ok, Err, OnOk, not, true, inl, map, ◌++◌, true≢false, sym, ap, ◌∙◌, rules, Row, Change, device_at, put_of}
use Rattle.std.proofs.Common.{is_ok}
use Rattle.srcp_rules.specs.declared.obeyed.Memory.{Memory}
use Rattle.srcp_rules.proofs.InitLaws.{added, changes_made, rows_made, init_accepted}
use Rattle.srcp_rules.proofs.init.init_device.Goals as goal

on_ok : (r : Result Unit Memory) (P : Type 0) → is_ok r ≡ true → OnOk r P → P
on_ok (Ok x) P e h = h
on_ok (Err x) P e h = absurd (true≢false (sym e))

pub add-requires : goal.add-requires
add-requires g c =
    let buses = g.R.Rows.buses c.args.rows.now in
    let state = g.R.Rows.state c.args.rows.now in
    let target = c.args.target in
    let device = device_at target in
    let absent = rw (c.is_there.ensures, c.device_at.ensures) at c.if-is_there.false in (
      device,
      added buses state c.requires.whole c.args.sender.moment target.group target.bus target.address c.args.fresh.now
          c.requires.fresh c.requires.some absent,
    )

pub returns-clause-took : goal.returns-clause-took
returns-clause-took g c =
    let buses = g.R.Rows.buses c.args.rows.now in
    let state = g.R.Rows.state c.args.rows.now in
    let target = c.args.target in
    let device = device_at target in
    let absent = rw (c.is_there.ensures, c.device_at.ensures) at c.if-is_there.false in
    let fresh = c.args.fresh.now in
    let free = sym c.is_locked.ensures ∙ c.if-is_locked.false in
    let other = sym c.has_init.ensures ∙ c.if-has_init.false in
    let succeeded : is_ok c.add.result ≡ true = c.is_err.ensures.negation ∙ ap not c.if-is_err.false in
    let changes =
    c.push_puts.ensures ∙ ap (λ (before : List Change). before ++ map (λ (row : Row). (put_of row).change) fresh) c.requires.blank.changes
    ∙ changes_made buses state c.requires.whole c.args.sender.moment target.group target.bus target.address fresh absent in
    let rows =
    on_ok c.add.result _ succeeded c.add.ensures.ok
    ∙ rows_made buses state c.requires.whole c.args.sender.moment target.group target.bus target.address fresh absent in
    inl
    (rw (← init_accepted state c.args.sender.session c.args.sender.moment target.group target.bus target.address c.args.init.now
    (map put_of fresh) free other)
    (record { told = record { reply = c.requires.blank.reply; changes = changes; ends = c.requires.blank.ends }; rows = rows }))

pub returns-then-is_there-clause-took : goal.returns-then-is_there-clause-took
returns-then-is_there-clause-took g c = search rules
