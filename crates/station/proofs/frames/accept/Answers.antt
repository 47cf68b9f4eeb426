-- `station::frames::accept` meets its contract, by the request.
use Prim.Native.Nat.{ℕ}
use mathlib.Core.List.{List}
use Rattle.messages.specs.Reading.{beside_of, read_rules}
use Rattle.rules.specs.Received.{match_req}
use Rattle.rules.specs.FromOctets.{IsId, OctetRequest}
use Rattle.rules.specs.Frames.{state_rule}
use Rattle.station.specs.Frames.{Ready}
use Rattle.station.proofs.ComesLaws.{comes_as}
use Rattle.receiving.specs.Judge.{request_of}
use Rattle.receiving.specs.declared.judge.Request.{Request}
use Rattle.receiving.specs.declared.judge.Request.TheVariants as request
use mathlib.Core.Path.{sym, ap, ap₂, ◌∙◌, subst}
use Rattle.station.proofs.frames.accept.Goals as goal

pub at_own-requires : goal.at_own-requires
at_own-requires c = (c.requires.0, subst (λ (x : Request). OctetRequest c.args.station.config.edition (request_of x (beside_of (read_rules c.args.station.config.edition c.args.octets.now)))) c.in-Own.is c.requires.1)

pub match_req-requires : goal.match_req-requires
match_req-requires c =
    let w : Ready c.args.station c.args.car c.args.out.now × OctetRequest c.args.station.config.edition (request_of (request.Match c.in-Match.run') (beside_of (read_rules c.args.station.config.edition c.args.octets.now))) = (c.requires.0, subst (λ (x : Request). OctetRequest c.args.station.config.edition (request_of x (beside_of (read_rules c.args.station.config.edition c.args.octets.now)))) c.in-Match.is c.requires.1) in
    let ids = c.identifiers-ids.ensures in
    (w.0, (subst (IsId _) (sym ids.0) w.1.0, subst (IsId _) (sym ids.1) w.1.1))

pub returns-in-Parm : goal.returns-in-Parm
returns-in-Parm c = let a = c.args in comes_as a.station _ _ a.out.now _ c.parm_req.result (sym (ap (λ (q : Request). state_rule a.station.config a.station.state a.station.records a.car (request_of q (beside_of (read_rules a.station.config.edition a.octets.now)))) c.in-Parm.is)) c.parm_req.ensures

pub returns-in-Own : goal.returns-in-Own
returns-in-Own c = let a = c.args in comes_as a.station _ _ a.out.now _ c.at_own.result (sym (ap (λ (q : Request). state_rule a.station.config a.station.state a.station.records a.car (request_of q (beside_of (read_rules a.station.config.edition a.octets.now)))) c.in-Own.is)) c.at_own.ensures

pub returns-in-ValidateFirst : goal.returns-in-ValidateFirst
returns-in-ValidateFirst c = let a = c.args in comes_as a.station _ _ a.out.now _ c.validate_first.result (sym (ap (λ (q : Request). state_rule a.station.config a.station.state a.station.records a.car (request_of q (beside_of (read_rules a.station.config.edition a.octets.now)))) c.in-ValidateFirst.is)) c.validate_first.ensures

pub returns-in-Match : goal.returns-in-Match
returns-in-Match c =
    let a = c.args in
    let ids = c.identifiers-ids.ensures in
    comes_as a.station _ _ a.out.now _ c.match_req.result
    (ap₂ (λ (x y : List ℕ). state_rule a.station.config a.station.state a.station.records a.car (match_req c.in-Match.run' x y)) ids.0 ids.1
    ∙ sym (ap (λ (q : Request). state_rule a.station.config a.station.state a.station.records a.car (request_of q (beside_of (read_rules a.station.config.edition a.octets.now)))) c.in-Match.is))
    c.match_req.ensures
