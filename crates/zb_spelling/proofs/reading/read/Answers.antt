use Rattle.zb_spelling.specs.Reading.{shown_tables}
use Rattle.zb_spelling.specs.Unspelling.{sizes_of}
use Rattle.zb_spelling.proofs.Fitting.{failed}
use Rattle.zb_spelling.proofs.Whole.{few_bytes, more_than_none, none_is_left, nothing_read, not_within, read_united, something_left}
use Rattle.zb_spelling.proofs.reading.read.Goals as goal

pub returns-in_default-clause-found : goal.returns-in_default-clause-found
returns-in_default-clause-found c = nothing_read (sizes_of c.args.geo.now) (few_bytes c.args.geo.now) c.args.bytes.now (rw c.in_default.is at c.in_ok-rows.ensures)

pub returns-then-not-is_empty-clause-found : goal.returns-then-not-is_empty-clause-found
returns-then-not-is_empty-clause-found c =
    something_left (sizes_of c.args.geo.now) (few_bytes c.args.geo.now) c.args.bytes.now (shown_tables c.in-Some.rows) c.in-Some.rest.now (rw c.in-Some.is at c.in_ok-rows.ensures)
    (more_than_none _ c.is_empty.result c.is_empty.ensures c.if-not-is_empty.true)

pub returns-then-not-are_within-clause-found : goal.returns-then-not-are_within-clause-found
returns-then-not-are_within-clause-found c =
    not_within (sizes_of c.args.geo.now) (few_bytes c.args.geo.now) c.args.bytes.now (shown_tables c.in-Some.rows) c.in-Some.rest.now (rw c.in-Some.is at c.in_ok-rows.ensures)
    (λ within. failed c.are_within.result c.if-not-are_within.true (c.are_within.ensures.1 within))

pub returns-clause-found : goal.returns-clause-found
returns-clause-found c =
    read_united (sizes_of c.args.geo.now) (few_bytes c.args.geo.now) c.args.bytes.now (shown_tables c.in-Some.rows) c.in-Some.rest.now (rw c.in-Some.is at c.in_ok-rows.ensures)
    (none_is_left c.in-Some.rest.now c.is_empty.result c.is_empty.ensures c.if-not-is_empty.false) (c.are_within.ensures.0 c.if-not-are_within.false) c.build.result c.build.ensures.tables
