-- `station::frame` meets its contract: what judging refuses, and what the request comes to.
use mathlib.Core.Path.{refl, sym}
use lib.ListN.{length}
use Rattle.receiving.proofs.JudgeLaws.{decided_taken, frame_decided, judged_octets, judges}
use Rattle.station.proofs.ComesLaws.{promised}
use Rattle.station.proofs.frame.Goals as goal

pub unread-requires : goal.unread-requires
unread-requires c =
    let a = c.args in
    let judged = sym c.in-Err.ensures in
    (c.requires, judged)

pub accept-requires : goal.accept-requires
accept-requires c =
    let a = c.args in
    let judged = sym c.in-Ok.ensures in
    let shown = judges a.station.config (length a.out.now) a.octets.now _ (decided_taken a.station.config (length a.out.now) a.octets.now _ judged) in
    (record { good = shown.good; kept = c.requires; car = shown.car; room = shown.room }, judged_octets a.station.config (length a.out.now) a.octets.now _ (λ i. (c.shared_slice_known-1.given i).fits) (decided_taken a.station.config (length a.out.now) a.octets.now _ judged))

pub returns-in-Err : goal.returns-in-Err
returns-in-Err c =
    let a = c.args in
    promised a.station a.octets.now (length a.out.now) _ a.out.now _ c.unread.result c.requires (λ i. (c.shared_slice_known-1.given i).fits) refl c.unread.ensures

pub returns-in-Ok : goal.returns-in-Ok
returns-in-Ok c =
    let a = c.args in
    let judged = sym c.in-Ok.ensures in
    promised a.station a.octets.now (length a.out.now) _ a.out.now _ c.accept.result c.requires (λ i. (c.shared_slice_known-1.given i).fits)
    (frame_decided a.station a.octets.now (length a.out.now) _ (decided_taken a.station.config (length a.out.now) a.octets.now _ judged)) c.accept.ensures
