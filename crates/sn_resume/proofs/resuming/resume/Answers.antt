use Rattle.sn_resume.proofs.resuming.resume.Goals as goal

pub returns-in-Ok-clause-resumed : goal.returns-in-Ok-clause-resumed
returns-in-Ok-clause-resumed c = record {
  saved = _;
  said = c.in_ok-accepted.ensures.said;
  accepted = c.in_ok-accepted.ensures.accepted;
  goes_on = c.in-Ok.ensures.goes_on;
  led = c.in-Ok.ensures.led;
}
