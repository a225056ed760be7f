mod Building
mod Marking
mod Sending
mod SentHeard
mod FittingReplies
mod Replied
mod Standing
