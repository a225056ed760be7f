pub mod Command
mod Rows
mod Paths
mod Growing
pub mod Printed
pub mod Hearing
mod Ready
mod Serving
mod Rounding
mod Exchanged
pub mod LeafSets
pub mod Segments
pub mod Overlong
pub mod Fronts
pub mod Said
pub mod Broken
pub mod ServerTurns
pub mod ClientTurns
pub mod Openings
pub mod Creations
pub mod SeenTexts
pub mod Closings
pub mod Infos
pub mod Beginnings
pub mod Gets
pub mod Puts
pub mod PutMarks
pub mod PutGets
pub mod ReadBacks
pub mod Sends
pub mod Watched
pub mod Updates
pub mod Popping
pub mod Monitors
pub mod AsTold
pub mod Calls
pub mod Dropping
pub mod Joined
mod Making
pub mod Courses
pub mod Turning
pub mod Putting
pub mod Monitoring
pub mod Starving
pub mod Completing
mod Subscribed
mod LoneSends
mod LoneMarks
mod OneSubscription
mod Outcomes
