use Rattle.tau_book.proofs.choosing.choose.Goals as goal

pub idle-out-requires-clause-no_message : goal.idle-out-requires-clause-no_message
idle-out-requires-clause-no_message g c = c.count_messages-messages.ensures.none c.if-jobs-eq0.true c.if-messages-eq0.true
